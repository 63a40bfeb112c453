use Rattle.std.proofs.Common.{◌≡◌, ◌<◌, ◌≤◌, List, [], ◌∷◌, ◌++◌, length, sym, ap, ◌∙◌, subst, arith, append_assoc, length-append}
use Rattle.std.proofs.lemmas.List.{length-map}
use Rattle.lift_base.specs.declared.limits.TheConstants.{MOST_ENTRIES}
use Rattle.lift_desk.specs.Steps.{with_taking}
use Rattle.lift_desk.specs.Seats.{ClerkPlace, IsNoteOf, Says, view_at}
use Rattle.lift_clerk.specs.declared.answering.DueAnswer.{DueAnswer}
use Rattle.lift_clerk.specs.TakenAndAnswered.{AreApart, ask_of}
use Rattle.lift_clerk.specs.Visits.{FindsAt}
use Rattle.lift_clerk.specs.lemmas.Scanned.{looked-at}
use Rattle.lift_parts.specs.declared.taken.NotedCommand.{NotedCommand}
use Rattle.lift_parts.specs.Batch.{commands_in}
use Rattle.lift_parts.specs.Flusher.{LooksGive, noted_visit, answers_in, looked_for}
use Rattle.lift_parts.specs.lemmas.Settled.{all-then, all-before}
use Rattle.lift_relay.specs.Settler.{AreDue}
use Rattle.lift_relay.proofs.Flushed.{finds_one}
use Rattle.lift_relay.proofs.settling.look_again.Goals as goal

-- how many answers a list of commands has
many : (commands : List NotedCommand) → length (answers_in commands) ≡ length commands
many commands = length-map commands (λ (t : NotedCommand). record { terminal = t.command.terminal; reply = t.reply })

-- there is room for one more
room : (answers : List DueAnswer) (left rest commands : List NotedCommand) (taken : NotedCommand) → left ≡ taken ∷ rest → answers ++ answers_in left ≡ answers_in commands → length commands ≤ MOST_ENTRIES → length answers < MOST_ENTRIES
room answers left rest commands taken is all few =
    omega (arith, ap length all, ap length is, length-append answers (answers_in left), many left, many commands)

pub push-requires : goal.push-requires
push-requires c = (
  omega arith,
  room c.loop-taken.answers.items c.loop-taken.taken-iterator c.next.new.self c.args.commands.items c.in-Some.taken c.in-Some.ensures.steps c.loop-taken.invariant.answers
      (let few = c.len-few.ensures in omega (arith, few.value, few.fits)),
)

pub loop-taken-preserved : goal.loop-taken-preserved
loop-taken-preserved c =
    let i = c.loop-taken.invariant in
    let t = c.in-Some.taken in
    let k = t.command.terminal in
    let rest = c.next.new.self in
    let now = c.loop-taken.seat in
    let next = c.look_for-found.new.self in
    let desk = c.args.desk.now in
    let l = c.look_for-found.ensures in
    let is = c.in-Some.ensures.steps in
    let due = subst (AreDue desk now) is i.due in
    let apart = subst (λ (cs : List NotedCommand). AreApart (commands_in cs)) is i.apart in
    let gives = l.noted (ask_of t.command) due.0.2 in
    let many : length now ≡ length desk = sym (length-map now (λ (p : ClerkPlace). p.table)) ∙ ap length i.seated in
    let below = due.0.0 in
    let inside : k < length now = omega arith in
    let look = looked-at now next k l.looked.0 c.look_for-found.result inside l.looked.1 l.looked.2 l.tells in
    let one = finds_one now next t l.looked.0 c.look_for-found.result inside look gives.0 gives.1 in
    let view = with_taking (view_at now k) t.note.word in
    let old = c.loop-taken.answers.items in
    let a : DueAnswer = record { terminal = k; reply = t.reply } in
    record {
      can_next = tt;
      is_finite = tt;
      due = subst (λ (s : List ClerkPlace). AreDue desk s rest) (sym one.1)
          (all-then (λ (u : NotedCommand) (p : ClerkPlace). (u.command.terminal < length desk) × IsNoteOf desk u.command.terminal u.note × Says p.view u.note.word (ask_of u.command)) now k view rest apart.0 due.1);
      apart = apart.1;
      found = λ all. i.found (subst (LooksGive now) (sym is)
          (one.0, all-before (λ (u : NotedCommand) (p : ClerkPlace). FindsAt p (noted_visit u)) now k view rest apart.0 (subst (λ (s : List ClerkPlace). LooksGive s rest) one.1 all)));
      looked = ap (λ (s : List ClerkPlace). looked_for s rest) one.1 ∙ ap (looked_for now) (sym is) ∙ i.looked;
      answers = ap (λ (xs : List DueAnswer). xs ++ answers_in rest) c.push.ensures.items ∙ append_assoc old (a ∷ []) (answers_in rest)
          ∙ ap (λ (cs : List NotedCommand). old ++ answers_in cs) (sym is) ∙ i.answers;
      seated = l.stays;
    }
