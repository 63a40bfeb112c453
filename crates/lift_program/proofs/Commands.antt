-- What the program's grammar takes, and what its matches say.
use Rattle.std.specs.Prelude.{IfSome, IfNone}
use Rattle.std.proofs.Common.{◌≡◌, ◌≢◌, Bool, true, false, ◌||◌, Option, Some, None, List, [], ap, ap₂, sym, subst, ◌∙◌, refl, inl, inr}
use Rattle.clap.specs.Words.{App, HasMatchesOf, Text, HasKind, IsAmong, fault_of, is_simple, is_simple_and_free, subcommand_of, subcommand_rows_of, kind_of}
use Rattle.clap.specs.declared.error.Error.{Error}
use Rattle.clap.specs.declared.error.kind.ErrorKind.TheVariants.{OutOfMemory}
use Rattle.clap.specs.declared.parser.matches.ArgMatches.{ArgMatches}
use Rattle.clap.proofs.OnLiterals.{clap_on_literals}
use Rattle.lift_program.specs.Words.{liftd_app, AreMatchesOf, AskForRequest, IsFor}
use Rattle.lift_program.specs.declared.words.Request.{Request}

liftd_is_simple : is_simple liftd_app ≡ true
unfolding clap_on_literals
liftd_is_simple = refl

liftd_is_free : is_simple_and_free liftd_app ≡ true
unfolding clap_on_literals
liftd_is_free = refl

-- what was added is no global option either
pub still_local : (old added new : Bool) → new ≡ (old || added) → old ≡ false → added ≡ false → new ≡ false
still_local old added new is local too = is ∙ ap₂ (λ (x y : Bool). x || y) local too

-- the words that are taken, and what was found in them
taken : (app : App) (words : List Text) → app ≡ liftd_app → (is_simple_and_free app ≡ true → fault_of app words ≡ []) → fault_of liftd_app words ≡ []
taken app words same kinds = subst (λ a. fault_of a words ≡ []) same (kinds (ap is_simple_and_free same ∙ liftd_is_free))

found : (app : App) (words : List Text) (m : ArgMatches) → app ≡ liftd_app → HasMatchesOf app words m → subcommand_rows_of m ≡ subcommand_of liftd_app words
found app words m same has = (has (ap is_simple same ∙ liftd_is_simple)).1 ∙ ap (λ a. subcommand_of a words) same

-- what the grammar finds in words that it takes
pub are_matches : (app : App) (words : List Text) (m : ArgMatches) → app ≡ liftd_app → (is_simple_and_free app ≡ true → fault_of app words ≡ []) → HasMatchesOf app words m → AreMatchesOf words m
are_matches app words m same kinds has = (taken app words same kinds, found app words m same has)

-- what was found is what the words ask for
pub some_asked : (words : List Text) (m : ArgMatches) (r : Option Request) → AreMatchesOf words m → IfSome r (λ request. IsFor (subcommand_rows_of m) request) → IfSome r (λ request. AskForRequest words request)
some_asked words m None are is = tt
some_asked words m (Some request) are is = (are.0, subst (λ s. IsFor s request) are.1 is)

-- where nothing was found the words ask for nothing
pub none_asked : (words : List Text) (m : ArgMatches) (r : Option Request) → AreMatchesOf words m → IfNone r ((request : Request) → IsFor (subcommand_rows_of m) request → ⊥)
    → IfNone r ((request : Request) → AskForRequest words request → ⊥)
none_asked words m (Some request) are none = tt
none_asked words m None are none = λ request asks. none request (subst (λ s. IsFor s request) (sym are.1) asks.1)

pub refused : (app : App) (words : List Text) (e : Error) (request : Request) → app ≡ liftd_app → (is_simple_and_free app ≡ true → HasKind (fault_of app words) e)
    → kind_of e ≢ OutOfMemory → AskForRequest words request → ⊥
refused app words e request same kinds other asks = go (kinds (ap is_simple_and_free same ∙ liftd_is_free))
  where
    go : HasKind (fault_of app words) e → ⊥
    go (inl memory) = other memory
    go (inr among) = subst (IsAmong (kind_of e)) (ap (λ a. fault_of a words) same ∙ asks.0) among
