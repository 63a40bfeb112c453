-- A scan that has come one terminal further.
use Rattle.std.proofs.Common.{◌≡◌, ℕ, suc, ◌<◌, ◌≤◌, ◌+◌, Bool, true, false, List, [], ◌∷◌, ◌++◌, length}
use Rattle.std.proofs.Common.{Option, Some, None, refl, sym, ap, ◌∙◌, subst, arith}
use Rattle.std.specs.Prelude.{IfSome}
use Rattle.std.proofs.lemmas.List.{map-append}
use Rattle.atomic_table.specs.Seated.{TableId}
use Rattle.lift_base.specs.declared.command.Reply.{Reply}
use Rattle.lift_base.specs.declared.command.Reply.TheVariants.{Unknown}
use Rattle.lift_building.specs.Plan.{Plan}
use Rattle.lift_desk.specs.declared.view.ClerkView.{ClerkView}
use Rattle.lift_desk.specs.declared.words.Ask.{Ask}
use Rattle.lift_desk.specs.Words.{last_of, number_of}
use Rattle.lift_desk.specs.Steps.{with_taking}
use Rattle.lift_desk.specs.Seats.{ClerkPlace, IsClerkOf, view_at, clerk_with, LooksOnce, TakesOf}
use Rattle.lift_desk.specs.Seats.{Owes, LookTells}
use Rattle.lift_desk.specs.lemmas.Places.{view_at-here}
use Rattle.lift_desk.specs.lemmas.WordLists.{last_of-push}
use Rattle.lift_policy.specs.declared.command.Command.{Command}
use Rattle.lift_policy.specs.Eligible.{Choice}
use Rattle.lift_policy.specs.Laws.{RunsJoin}
use Rattle.lift_policy.specs.Run.{unknowns}
use Rattle.lift_policy.specs.Step.{State}
use Rattle.lift_keeper.specs.Keeper.{KeeperView}
use Rattle.lift_keeper.specs.Writer.{WriterView}
use Rattle.lift_clerk.specs.declared.answering.DueAnswer.{DueAnswer}
use Rattle.lift_clerk.specs.Visits.{Visit, FindsAt, command_at, commands_of}
use Rattle.lift_clerk.specs.Answering.{terminals_in, replies_in}
use Rattle.lift_clerk.specs.Scanning.{ClerkScans, Decides, terminals_of}
use Rattle.lift_clerk.specs.lemmas.Looking.{Looked, inside-desk, one-more}
use Rattle.lift_clerk.specs.lemmas.Visiting.{commands-more, taken-new}

-- decisions that meet join
pub decides-more : (is_broken : Bool) (plan : Plan) (choice : Choice) (before mid after : State)
    (earlier later : List Command) (replies others : List Reply) → RunsJoin choice
    → Decides is_broken plan choice before earlier replies mid
    → Decides is_broken plan choice mid later others after
    → Decides is_broken plan choice before (earlier ++ later) (replies ++ others) after
decides-more true plan choice before mid after earlier later replies others join first second = (
  ap (λ l. l ++ others) first.0 ∙ ap (λ l.
      unknowns earlier ++ l) second.0 ∙ sym (map-append (λ (c : Command). Unknown) earlier later),
  second.1 ∙ first.1,
)
decides-more false plan choice before mid after earlier later replies others join first second =
    join plan before mid after earlier later replies others first second

-- what the clerk's call says of its look
pub looked-at : (seat next : List ClerkPlace) (n word : ℕ) (found : Option Ask) → n < length seat
    → next ≡ clerk_with seat n (with_taking (view_at seat n) word)
    → TakesOf (view_at seat n) word found → LookTells (view_at seat n) (view_at next n) found
    → Looked FindsAt seat next n word found
looked-at seat next n word found inside is takes tells =
    let here : view_at next n ≡ with_taking (view_at seat n) word =
    ap (λ l. view_at l n) is ∙ view_at-here seat n (with_taking (view_at seat n) word) inside in
    let there = subst (λ (w : ClerkView). LookTells (view_at seat n) w found) here tells in
    record {
      seat_is = is;
      look = record {
        reads = takes;
        even = there.even;
        number = number_of-found (view_at seat n) found takes there.owes;
        in_range = there.in_range;
        known = there.known;
        told = there.finds;
      };
    }
  where
    -- the word that was taken is the last
    number_of-found : (view : ClerkView) (ask : Option Ask) → TakesOf view word ask
        → IfSome ask (λ (a : Ask). Owes (with_taking view word)
        × (number_of (last_of (with_taking view word).taken) ≡ a.number))
        → IfSome ask (λ (a : Ask). number_of word ≡ a.number)
    number_of-found view None takes owes = tt
    number_of-found view (Some a) takes owes =
        ap number_of (sym (last_of-push view.taken word))
        ∙ ap (λ l. number_of (last_of l)) (sym (taken-new view word takes.0)) ∙ owes.1

pub decides-nothing : (is_broken : Bool) (plan : Plan) (choice : Choice) (state : State)
    → Decides is_broken plan choice state [] [] state
decides-nothing true plan choice state = (refl, refl)
decides-nothing false plan choice state = refl

-- a clerk's scan that comes one terminal further
pub scans-more : {D : Type 0} (choice : Choice) (desk : List TableId)
    (places seat next : List ClerkPlace) (before mid after : KeeperView D)
    (answers others : List DueAnswer) (n : ℕ) (found : Option Ask)
    → RunsJoin choice → n < length desk
    → ClerkScans choice desk places seat before mid answers n
    → LooksOnce TakesOf seat n next found → LookTells (view_at seat n) (view_at next n) found
    → IsClerkOf desk next
    → terminals_in others ≡ terminals_of (command_at n found)
    → Decides mid.writer.is_broken mid.writer.plan choice mid.state (command_at n found)
    (replies_in others) after.state
    → (mid.writer.is_broken ≡ false
    → length after.state.batch ≤ length mid.state.batch + 1)
    → after.writer ≡ mid.writer
    → ClerkScans choice desk places next before after (answers ++ others) (suc n)
scans-more {D} choice desk places seat next before mid after answers others n found join below old
    look tells seated same decides grows writer =
    let inside = inside-desk _ _ desk places seat n n old.scans old.seated below in
    let plan = before.writer.plan in
    let is_broken = before.writer.is_broken in
    let decided = subst (λ (w : WriterView D). Decides w.is_broken w.plan choice mid.state
    (command_at n found) (replies_in others) after.state) old.writer decides in
    record {
      scans = one-more FindsAt _ _ places seat next n look.0 found inside.1 old.scans
          (looked-at seat next n look.0 found inside.0 look.1 look.2 tells)
          (λ visits count was.
          (let v : Visit = record { word = look.0; found = found } in
          let commands : commands_of 0 (visits ++ v ∷ []) ≡ commands_of 0 visits ++ command_at n found =
          commands-more 0 n visits v (omega (arith, count)) in
          record {
            terminals = map-append (λ (a : DueAnswer). a.terminal) answers others ∙ ap (λ l.
                l ++ terminals_in others) was.terminals ∙ ap (λ l.
                terminals_of (commands_of 0 visits) ++ l) same
                ∙ sym (map-append (λ (c : Command).
                c.terminal) (commands_of 0 visits) (command_at n found)) ∙ ap terminals_of
                (sym commands);
            decides = subst (λ cs. Decides is_broken plan choice before.state cs
                (replies_in (answers ++ others)) after.state) (sym commands)
                (subst (λ rs. Decides is_broken plan choice before.state
                (commands_of 0 visits ++ command_at n found) rs after.state)
                (sym (map-append (λ (a : DueAnswer). a.reply) answers others))
                (decides-more is_broken plan choice before.state mid.state after.state
                (commands_of 0 visits) (command_at n found) (replies_in answers)
                (replies_in others) join was.decides decided));
          }));
      seated = seated;
      writer = writer ∙ old.writer;
      few = λ whole.
          (let few = old.few whole in
          let grown = grows (ap (λ (w : WriterView D). w.is_broken) old.writer ∙ whole) in
          omega arith);
    }
