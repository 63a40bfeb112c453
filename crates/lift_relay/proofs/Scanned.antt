-- A scan ahead of the answers that has come one terminal further, and what a whole one leaves.
use Rattle.std.proofs.Common.{◌≡◌, ℕ, suc, ◌+◌, ◌<◌, ◌≤◌, ◌^◌, false, List, [], ◌∷◌, ◌++◌, length, Option, Some, None, refl, sym, ap, ◌∙◌, subst, arith}
use Rattle.std.specs.Prelude.{IfSome, IsSome, is_some, filter, map}
use Rattle.std.proofs.lemmas.List.Elements.{filter-append}
use Rattle.std.specs.Option.{option_to_list}
use Rattle.std.proofs.lemmas.List.{map-append}
use Rattle.atomic_table.specs.Seated.{TableId}
use Rattle.lift_base.specs.declared.command.Reply.{Reply}
use Rattle.lift_building.specs.Plan.{Plan}
use Rattle.lift_register.specs.Register.{RegisterState, register_of}
use Rattle.lift_desk.specs.declared.view.ClerkView.{ClerkView}
use Rattle.lift_desk.specs.declared.words.Ask.{Ask}
use Rattle.lift_desk.specs.Words.{last_of, turn_of, ask_word}
use Rattle.lift_desk.specs.Spelled.{IsAsk}
use Rattle.lift_desk.specs.Steps.{with_taking}
use Rattle.lift_desk.specs.Seats.{ClerkPlace, IsClerkOf, IsNoteOf, LooksOnce, view_at, clerk_with, TakesAheadOf, IsToldAhead}
use Rattle.lift_desk.specs.lemmas.Places.{view_at-here}
use Rattle.lift_decider.specs.Decider.{DeciderState}
use Rattle.lift_policy.specs.declared.command.Command.{Command}
use Rattle.lift_policy.specs.Eligible.{Choice}
use Rattle.lift_policy.specs.Laws.{RunsJoin, StepsJoinAtMostOne}
use Rattle.lift_policy.specs.Run.{Run}
use Rattle.lift_policy.specs.Step.{State}
use Rattle.lift_keeper.specs.Keeper.{IsKeeper}
use Rattle.lift_keeper.specs.lemmas.Keepers.{decided_keeper, keeper_without_batch}
use Rattle.lift_clerk.specs.Visits.{Visit, command_at, commands_of}
use Rattle.lift_clerk.specs.lemmas.Visiting.{commands-more}
use Rattle.lift_clerk.specs.lemmas.Looking.{Looked, inside-desk, one-more}
use Rattle.lift_parts.specs.declared.taken.NotedCommand.{NotedCommand}
use Rattle.lift_parts.specs.Batch.{commands_in, replies_in, noted_in, turns_of, AreBelow}
use Rattle.lift_parts.specs.Scan.{TakesAt, words_of}
use Rattle.lift_relay.specs.Scanner.{TakesAhead}
use Rattle.lift_relay.proofs.Noted.{noted_more}

-- the words of one look more
words-more : (visits : List Visit) (v : Visit) → words_of (visits ++ v ∷ []) ≡ words_of visits ++ words_of (v ∷ [])
words-more visits v =
    let found = λ (u : Visit). is_some u.found in
    ap (map (λ (u : Visit). u.word)) (filter-append found visits (v ∷ []))
    ∙ map-append (λ (u : Visit). u.word) (filter found visits) (filter found (v ∷ []))

-- what the call says of one look
pub looked-at : (seat next : List ClerkPlace) (n word : ℕ) (found : Option Ask) → n < length seat → next ≡ clerk_with seat n (with_taking (view_at seat n) word) → TakesAheadOf (view_at seat n) word found
    → IfSome found IsAsk → (IsSome found → turn_of (last_of (view_at next n).taken) < 2 ^ 20) → length (view_at seat n).told ≤ turn_of (last_of (view_at next n).taken)
    → ((ask : Ask) → IsToldAhead (view_at seat n) ask → IsSome found × (turn_of (last_of (view_at next n).taken) ≡ length (view_at seat n).told → found ≡ Some ask)) → Looked TakesAt seat next n word found
looked-at seat next n word found inside is takes in_range turn known told =
    let here : view_at next n ≡ with_taking (view_at seat n) word = ap (λ l. view_at l n) is ∙ view_at-here seat n (with_taking (view_at seat n) word) inside in
    record {
      seat_is = is;
      look = record {
        reads = takes;
        in_range = in_range;
        turn = subst (λ (w : ClerkView). IsSome found → turn_of (last_of w.taken) < 2 ^ 20) here turn;
        known = subst (λ (w : ClerkView). length (view_at seat n).told ≤ turn_of (last_of w.taken)) here known;
        told = subst (λ (w : ClerkView). (ask : Ask) → IsToldAhead (view_at seat n) ask → IsSome found × (turn_of (last_of w.taken) ≡ length (view_at seat n).told → found ≡ Some ask)) here told;
      };
    }

-- one look more, and what it took decided
pub takes-more : (choice : Choice) (desk : List TableId) (places seat next : List ClerkPlace) (before mid after : DeciderState) (taken : List NotedCommand) (more : Option NotedCommand) (n : ℕ) (found : Option Ask)
    → RunsJoin choice → n < length desk → TakesAhead choice desk places seat before mid taken n → (look : LooksOnce TakesAheadOf seat n next found)
    → IfSome found IsAsk → (IsSome found → turn_of (last_of (view_at next n).taken) < 2 ^ 20) → length (view_at seat n).told ≤ turn_of (last_of (view_at next n).taken)
    → ((ask : Ask) → IsToldAhead (view_at seat n) ask → IsSome found × (turn_of (last_of (view_at next n).taken) ≡ length (view_at seat n).told → found ≡ Some ask))
    → IfSome found (λ (ask : Ask). last_of (view_at next n).taken ≡ ask_word (turn_of (last_of (view_at next n).taken)) ask.number ask.body) → IsClerkOf desk next
    → IfSome more (λ (k : NotedCommand). IsNoteOf desk n k.note × (k.note.word ≡ last_of (view_at next n).taken))
    → commands_in (option_to_list more) ≡ command_at n found → Run mid.plan choice mid.state (commands_in (option_to_list more)) (replies_in (option_to_list more)) after.state
    → length after.state.batch ≤ length mid.state.batch + 1 → after.plan ≡ mid.plan → TakesAhead choice desk places next before after (taken ++ option_to_list more) (suc n)
takes-more choice desk places seat next before mid after taken more n found join below old look in_range turn known told last seated note same run grows plan =
    let others = option_to_list more in
    let inside = inside-desk TakesAt _ desk places seat n n old.scans old.seated below in
    let noted = noted_more desk (turns_of places) taken more seat next n look.0 found inside.0 look.1 look.2 in_range last note same old.noted old.turns in
    record {
      scans = one-more TakesAt _ _ places seat next n look.0 found inside.1 old.scans (looked-at seat next n look.0 found inside.0 look.1 look.2 in_range turn known told) (λ visits count was.
          (let v : Visit = record { word = look.0; found = found } in
          record {
            commands = map-append (λ (t : NotedCommand). t.command) taken others ∙ ap (λ l. l ++ commands_in others) was.commands ∙ ap (λ l. commands_of 0 visits ++ l) same ∙ sym (commands-more 0 n visits v (omega (arith, count)));
            notes = map-append (λ (t : NotedCommand). t.note.word) taken others ∙ ap (λ l. l ++ noted_in others) was.notes ∙ ap (λ l. words_of visits ++ l) noted.2 ∙ sym (words-more visits v);
            run = subst (λ (p : List Command × List Reply). Run before.plan choice before.state p.0 p.1 after.state) (λ i. (sym (map-append (λ (t : NotedCommand). t.command) taken others) i, sym (map-append (λ (t : NotedCommand). t.reply) taken others) i))
                (join before.plan before.state mid.state after.state (commands_in taken) (commands_in others) (replies_in taken) (replies_in others) was.run
                (subst (λ (p : Plan). Run p choice mid.state (commands_in others) (replies_in others) after.state) old.plan run));
          }));
      seated = seated;
      plan = plan ∙ old.plan;
      few = let few = old.few in omega arith;
      noted = noted.0;
      turns = noted.1;
    }

-- what looks from a terminal on took is of the terminals up to the last look
below_at : (first n : ℕ) (found : Option Ask) (rest : List Command) → first < n → AreBelow n rest → AreBelow n (command_at first found ++ rest)
below_at first n None rest lt below = below
below_at first n (Some ask) rest lt below = (lt, below)

pub below : (first n : ℕ) (visits : List Visit) → first + length visits ≤ n → AreBelow n (commands_of first visits)
below first n [] h = tt
below first n (v ∷ visits) h = below_at first n v.found (commands_of (suc first) visits) (omega arith) (below (suc first) n visits (omega arith))

-- along a run all that is accepted fits after what was shown before
pub keeps-run : (choice : Choice) → StepsJoinAtMostOne choice → (plan : Plan) (safe : RegisterState) → register_of safe [] ≡ safe → (state next : State) (commands : List Command) (replies : List Reply)
    → IsKeeper plan state plan safe false → Run plan choice state commands replies next → IsKeeper plan next plan safe false
keeps-run choice joins plan safe same state next [] [] keeper run = subst (λ (s : State). IsKeeper plan s plan safe false) (sym run) keeper
keeps-run choice joins plan safe same state next [] (r ∷ replies) keeper run = absurd run
keeps-run choice joins plan safe same state next (c ∷ commands) [] keeper run = absurd run
keeps-run choice joins plan safe same state next (c ∷ commands) (r ∷ replies) keeper run =
    let mid = run.0 in
    let one = decided_keeper plan state mid plan plan safe false c.terminal c.number c.body keeper same refl (joins plan state c.terminal c.number c.body r mid run.1) in
    keeps-run choice joins plan safe same mid next commands replies one run.2

pub run-keeps : (choice : Choice) → StepsJoinAtMostOne choice → (plan : Plan) (state next : State) (commands : List Command) (replies : List Reply) → register_of state.register [] ≡ state.register → state.batch ≡ []
    → Run plan choice state commands replies next → IsKeeper plan next plan state.register false
run-keeps choice joins plan state next commands replies same none run =
    keeps-run choice joins plan state.register same state next commands replies (keeper_without_batch plan state plan state.register false refl none same (λ _. refl)) run
