-- What the program's words ask for.
use Rattle.std.specs.Prelude.{◌≡◌, ◌≢◌, ◌≤◌, ◌⊎◌, ℕ, Bool, true, false, List, [], ◌∷◌, Option, Some}
use Rattle.std.specs.Prelude.{None, codes}
use Rattle.std.specs.Fmt.{decimal}
use Rattle.clap.specs.Words.{AddsSubcommand, App, Row, Rule, Text, app_of, new_app, new_rule}
use Rattle.clap.specs.Words.{with_rule, with_subcommand, first_of, fault_of}
use Rattle.clap.specs.Words.{subcommand_of, subcommand_rows_of}
use Rattle.clap.specs.declared.builder.action.ArgAction.TheVariants.{SetTrue}
use Rattle.clap.specs.declared.builder.command.Command.{Command}
use Rattle.clap.specs.declared.parser.matches.ArgMatches.{ArgMatches}
use Rattle.lift_base.specs.declared.limits.TheConstants.{LEAST_HALF}
use Rattle.lift_policy.specs.declared.policies.Shipped.{Shipped}
use Rattle.lift_policy.specs.Choices.{policy_name}
use Rattle.lift_program.specs.declared.words.Request.{Request}
use Rattle.lift_program.specs.declared.words.Request.TheVariants.{Replay, Format, Show, Serve}

-- a plain word that has to be there
abbrev pub word_rule : Text → Rule
word_rule name = record (new_rule name) { required = true }

-- an option, with its value in the next word or after `=`
abbrev pub option_rule : Text → Rule
option_rule name = record (new_rule name) { long = Some name }

-- an option without a value: its word is `true` where it is there, and else `false`
abbrev pub flag_rule : Text → Rule
flag_rule name = record (option_rule name) { action = Some SetTrue }

-- a command over an image and a building: `<name> <image> <building>`
abbrev pub app_on : Text → App
app_on name = with_rule (with_rule (new_app name) (word_rule (codes "image")))
    (word_rule (codes "building"))

-- `format <image> <building> [--half n]`
abbrev pub format_app : App
format_app = with_rule (app_on (codes "format")) (option_rule (codes "half"))

-- `show <image> <building>`
abbrev pub show_app : App
show_app = app_on (codes "show")

-- `serve <image> <building> --port <p> --sessions <n> [--policy <name>] [--absent-last]`
abbrev pub serve_app : App
serve_app = with_rule (with_rule (with_rule (with_rule (app_on (codes "serve"))
    (option_rule (codes "port"))) (option_rule (codes "sessions"))) (option_rule (codes "policy")))
    (flag_rule (codes "absent-last"))

-- A command that, added to a program, is this command of it, after those that it had.
abbrev pub IsCommand : App → Command → Type 0
IsCommand app command = (old new : Command) → AddsSubcommand old command new
    → app_of new ≡ with_subcommand (app_of old) app.top

-- the program by itself, whose first word is not its name
abbrev pub bare_app : App
bare_app = record (new_app
    (codes "liftd")) { top = record (new_app (codes "liftd")).top { no_binary_name = true } }

-- the program with its commands
abbrev pub liftd_app : App
liftd_app = with_subcommand
    (with_subcommand (with_subcommand (with_subcommand bare_app (new_app (codes "replay")).top)
    format_app.top) show_app.top) serve_app.top

-- how the program is called, line by line
abbrev pub help_text : List ℕ
help_text = codes "liftd, the group controller of a lift group\n\n  liftd [replay]\n      carries out the script on standard input\n  liftd format <image> <building> [--half <n>]\n      makes an empty journal of two halves of n sectors, 64 to 1000000 (64)\n  liftd show <image> <building>\n      prints the open calls of a journal\n  liftd serve <image> <building> --port <p> --sessions <n>\n              [--policy etd|fewest|wait] [--absent-last]\n      serves kiosks and cars at port p of this machine, until n connections\n      (1 to 1000000) have ended; by the last option a car that isn't connected,\n      or hasn't said since where it is, takes calls that no other may take\n\nStatus 0: done. 1: a fault, told in a line on standard error, or a bad script.\n2: other words, as these are.\n"

-- the sectors in a half: 64, or what the option's word spells, 64 to 1,000,000
abbrev pub IsHalf : Option Text → ℕ → Type 0
IsHalf None half = half ≡ LEAST_HALF
IsHalf (Some word) half = (word ≡ decimal half) × (LEAST_HALF ≤ half) × (half ≤ 1000000)

-- the image and the building that a command is over
abbrev pub IsOver : List Row → (image building : Text) → Type 0
IsOver rows image building = (first_of (codes "image") rows ≡ Some image)
    × (first_of (codes "building") rows ≡ Some building)

-- what the words after `format` ask for
abbrev pub IsFormat : List Row → Request → Type 0
IsFormat rows (Format image building half) = IsOver rows image.now building.now
    × IsHalf (first_of (codes "half") rows) half
IsFormat rows _ = ⊥

-- what the words after `show` ask for
abbrev pub IsShow : List Row → Request → Type 0
IsShow rows (Show image building) = IsOver rows image.now building.now
IsShow rows _ = ⊥

-- a number from 1 to the most that the option's word spells
abbrev pub IsCount : (most : ℕ) → Option Text → ℕ → Type 0
IsCount most None count = ⊥
IsCount most (Some word) count = (word ≡ decimal count) × (1 ≤ count) × (count ≤ most)

-- the policy that the option's word names: without one, that of the least cost
abbrev pub IsPolicy : Option Text → Shipped → Type 0
IsPolicy None policy = codes "etd" ≡ policy_name policy
IsPolicy (Some word) policy = word ≡ policy_name policy

-- whether absent cars come last: where the option is there
abbrev pub IsAbsentLast : Option Text → Bool → Type 0
IsAbsentLast word true = word ≡ Some (codes "true")
IsAbsentLast word false = word ≢ Some (codes "true")

-- what the words after `serve` ask for
abbrev pub IsServe : List Row → Request → Type 0
IsServe rows (Serve image building port sessions policy) = IsOver rows image.now building.now
    × IsCount 65535 (first_of (codes "port") rows) port
    × IsCount 1000000 (first_of (codes "sessions") rows) sessions
    × IsPolicy (first_of (codes "policy") rows) policy.policy
    × IsAbsentLast (first_of (codes "absent-last") rows) policy.absent_last
IsServe rows _ = ⊥

-- what a command asks for; without one a script is carried out
abbrev pub IsFor : Option (Text × List Row) → Request → Type 0
IsFor None request = request ≡ Replay
IsFor (Some command) request = ((command.0 ≡ codes "replay") × (request ≡ Replay))
    ⊎ (((command.0 ≡ codes "format") × IsFormat command.1 request)
    ⊎ (((command.0 ≡ codes "show") × IsShow command.1 request)
    ⊎ ((command.0 ≡ codes "serve") × IsServe command.1 request)))

-- The grammar of the commands takes the words, and they ask for this.
abbrev pub AskForRequest : List Text → Request → Type 0
AskForRequest words request = (fault_of liftd_app words ≡ [])
    × IsFor (subcommand_of liftd_app words) request

-- The grammar of the commands takes the words, and these are its matches.
abbrev pub AreMatchesOf : List Text → ArgMatches → Type 0
AreMatchesOf words matches = (fault_of liftd_app words ≡ [])
    × (subcommand_rows_of matches ≡ subcommand_of liftd_app words)

-- none of these requests is there
abbrev pub AsksNothing : (Request → Type 0) → Type 0
AsksNothing is_asked = (request : Request) → is_asked request → ⊥

-- 64 to 1,000,000 sectors in a half
abbrev pub IsRequestInRange : Request → Type 0
IsRequestInRange (Format image building half) = (LEAST_HALF ≤ half) × (half ≤ 1000000)
IsRequestInRange (Serve image building port sessions policy) = (1 ≤ port) × (port ≤ 65535)
    × (1 ≤ sessions)
    × (sessions ≤ 1000000)
IsRequestInRange _ = Unit {0}

-- the words ask for help, and for nothing else
abbrev pub AsksForHelp : List Text → Type 0
AsksForHelp words = words ≡ codes "--help" ∷ []
