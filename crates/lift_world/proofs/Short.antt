-- No batch has more entries than commands, and so none more than there are terminals.
use Rattle.std.proofs.Common.{ℕ, ◌≡◌, ◌+◌, ◌-◌, ◌≤◌, Bool, true, false, cond, List, [], ◌∷◌, ◌++◌, length, take, drop, All, refl, sym, ap, subst, ◌∙◌, inl, inr, arith}
use Rattle.std.specs.Prelude.{unwrap_or}
use Rattle.std.specs.List.{AllByRecursion}
use Rattle.std.proofs.lemmas.Bool.{false≢true}
use Rattle.std.proofs.lemmas.List.{length-append, length-take, length-drop, take-append-drop}
use Rattle.std.proofs.lemmas.List.Elements.{All-head, All-tail}
use Rattle.lift_building.specs.Plan.{Plan}
use Rattle.lift_register.specs.Register.{RegisterState}
use Rattle.lift_base.specs.declared.limits.TheConstants.{MOST_ENTRIES, MOST_TERMINALS}
use Rattle.lift_policy.specs.declared.command.Command.{Command}
use Rattle.lift_policy.specs.lemmas.Joins.{Step-joins}
use Rattle.lift_world.specs.declared.event.Taken.{Taken}
use Rattle.lift_world.specs.declared.event.Event.{Event}
use Rattle.lift_world.specs.declared.event.Phase.{Phase}
use Rattle.lift_world.specs.declared.event.Power.{Power}
use Rattle.lift_policy.specs.Decision.{Decision}
use Rattle.lift_world.specs.Decided.{decided}
use Rattle.lift_world.specs.World.{World, SealedBatch, start, is_idle, is_off, is_running, state_of}
use Rattle.lift_world.specs.Next.{run, next}
use Rattle.lift_world.specs.Headline.{IsOfTerminal, HoldsFew}
use Rattle.lift_world.specs.Relay.{last_end, flown}
use Rattle.lift_world.specs.Tie.{naming}
use Rattle.lift_world.specs.Short.{AreShort, HoldsFewEntries}
use Rattle.lift_world.specs.lemmas.Counted.{in_queue}
use Rattle.lift_world.proofs.Few.{holds_few}
use Rattle.lift_world.specs.lemmas.Goes.{runs_join}
use Rattle.lift_world.specs.lemmas.Leads.{leads}
use Rattle.lift_world.specs.lemmas.Ordered.{Ordered, ordered_after, first_of, none_ends, not_both, last_pushed, flies_to}
use Rattle.lift_world.specs.lemmas.Phases.{not_idle}
use Rattle.lift_world.specs.lemmas.Steps.{decided_step}

-- each of these batches, from here or from where the one before it ends, has at most one entry for each of its commands
abbrev pub AreCounted : ℕ → List SealedBatch → Type 0
AreCounted low [] = Unit {0}
AreCounted low (batch ∷ queue) = (batch.upto ≤ low + length batch.commands) × AreCounted batch.upto queue

counted_push : (low : ℕ) (queue : List SealedBatch) (b : SealedBatch) → b.upto ≤ last_end low queue + length b.commands → AreCounted low queue → AreCounted low (queue ++ b ∷ [])
counted_push low [] b le h = (le, tt)
counted_push low (x ∷ queue) b le h = (h.0, counted_push x.upto queue b le h.1)

short_by : (low : ℕ) (queue : List SealedBatch) → AreCounted low queue → All (λ (b : SealedBatch). length b.commands ≤ MOST_ENTRIES) queue → AreShort low queue
short_by low [] counted few = tt
short_by low (b ∷ queue) counted few =
    let one = counted.0 in
    let at = All-head (λ (x : SealedBatch). length x.commands ≤ MOST_ENTRIES) b queue few in
    (omega arith, short_by b.upto queue counted.1 (All-tail (λ (x : SealedBatch). length x.commands ≤ MOST_ENTRIES) b queue few))

-- a decision accepts at most one entry
decided_one : (w : World) (command : Command) (letter : Rattle.std.specs.Prelude.Option ℕ) (d : Decision) → decided w.building (state_of w) command.terminal command.number command.body letter ≡ Rattle.std.specs.Prelude.Some d
    → length (take w.sealed w.accepted ++ d.next.batch) ≤ length w.accepted + 1
decided_one w command letter d made =
    let front = length-append (take w.sealed w.accepted) d.next.batch in
    let whole = length-append (take w.sealed w.accepted) (drop w.sealed w.accepted) in
    let same : length (take w.sealed w.accepted ++ drop w.sealed w.accepted) ≡ length w.accepted = ap length (take-append-drop w.sealed w.accepted) in
    let step = decided_step w.building (state_of w) command.terminal command.number command.body letter d made in
    elim (Step-joins w.building (naming letter) (state_of w) command.terminal command.number command.body d.reply d.next step) [
      | inl none ↦ (let n : length d.next.batch ≡ length (drop w.sealed w.accepted) = ap length none.batch in omega arith)
      | inr one ↦ (let n : length d.next.batch ≡ length (drop w.sealed w.accepted ++ one.0 ∷ []) = ap length one.1.batch in
          let m = length-append (drop w.sealed w.accepted) (one.0 ∷ []) in
          omega arith)
    ]

-- where the first queued batch begins, and that no batch has more entries than commands; after a fault or a cut no more than 63
pub record Counts (accepted safe sealed : ℕ) (flight : SealedBatch) (phase : Phase) (queue : List SealedBatch) (power : Power) (taken : List Taken) : Type 0 where
  pub flying : flight.upto ≤ safe + MOST_ENTRIES
  pub begins : ℕ
  pub behind : cond (is_idle phase) safe flight.upto ≤ begins
  pub first : is_running power ≡ true → begins ≡ cond (is_idle phase) safe flight.upto
  pub ends : is_off power ≡ false → last_end begins queue ≡ sealed
  pub counted : AreCounted begins queue
  pub gathered : is_off power ≡ false → accepted ≤ sealed + length taken
  pub lost : is_off power ≡ true → accepted ≤ sealed + MOST_ENTRIES

abbrev pub AreFew : World → Type 0
AreFew w = Counts (length w.accepted) w.safe w.sealed w.flight w.phase w.queue w.power w.taken

taken_few : (w : World) → HoldsFew w → length w.taken ≤ MOST_TERMINALS
taken_few w few =
    let whole = length-append (w.due ++ w.flight.commands ++ in_queue w.queue) w.taken in
    let all = few.on_their_way in
    omega arith

first_few : (w : World) (batch : SealedBatch) (rest : List SealedBatch) → HoldsFew w → w.queue ≡ batch ∷ rest → length batch.commands ≤ MOST_ENTRIES
first_few w batch rest few at =
    All-head (λ (x : SealedBatch). length x.commands ≤ MOST_ENTRIES) batch rest
    (subst (λ (q : List SealedBatch). All (λ (x : SealedBatch). length x.commands ≤ MOST_ENTRIES) q) at (All-tail (λ (x : SealedBatch). length x.commands ≤ MOST_ENTRIES) w.flight w.queue few.batches))

gathered_few : (w : World) (b : Bool) → is_off w.power ≡ b → HoldsFew w → AreFew w → length w.accepted ≤ w.sealed + MOST_ENTRIES
gathered_few w true e few k = k.lost e
gathered_few w false e few k = let t = taken_few w few in let g = k.gathered e in omega arith

module _ (w : World) (few : HoldsFew w) (order : Ordered w) (k : AreFew w) where
  counted_first : (batch : SealedBatch) (rest : List SealedBatch) → w.queue ≡ batch ∷ rest → (batch.upto ≤ k.begins + length batch.commands) × AreCounted batch.upto rest
  counted_first batch rest at = subst (λ (q : List SealedBatch). AreCounted k.begins q) at k.counted

  ends_first : (batch : SealedBatch) (rest : List SealedBatch) → w.queue ≡ batch ∷ rest → is_off w.power ≡ false → last_end batch.upto rest ≡ w.sealed
  ends_first batch rest at on = subst (λ (q : List SealedBatch). last_end k.begins q ≡ w.sealed) at (k.ends on)

  on_again : {A : Type 0} → is_off w.power ≡ false → is_off w.power ≡ true → A
  on_again on off = absurd (false≢true (sym on ∙ off))

  counts : (event : Event) → AreFew (unwrap_or (next w event) w)
  counts event = leads AreFew w event (record {
    stays = k;
    asked = λ command on may is. k;
    taken = λ terminal letter command d on may at made is_take.
        let one = decided_one w command letter d made in
        let more = length-append w.taken (record { terminal = command.terminal; number = command.number; body = command.body; reply = d.reply } ∷ []) in
        let g = k.gathered on in
        record { flying = k.flying; begins = k.begins; behind = k.behind; first = k.first; ends = k.ends; counted = k.counted; gathered = λ _. omega arith; lost = λ off. on_again on off };
    sealed = λ on some is_seal.
        let b : SealedBatch = record { commands = w.taken; upto = length w.accepted } in
        let g = k.gathered on in
        let e = k.ends on in
        record {
          flying = k.flying;
          begins = k.begins;
          behind = k.behind;
          first = k.first;
          ends = λ _. last_pushed k.begins w.queue b;
          counted = counted_push k.begins w.queue b (omega arith) k.counted;
          gathered = λ _. omega arith;
          lost = λ off. on_again on off;
        };
    fails = λ batch rest on at broken. record {
      flying = k.flying;
      begins = batch.upto;
      behind = (first_of w batch rest order at).0;
      first = λ runs. not_both w.power runs broken;
      ends = λ _. ends_first batch rest at on;
      counted = (counted_first batch rest at).1;
      gathered = k.gathered;
      lost = k.lost;
    };
    flies = λ batch rest on at idle more.
        let one = (counted_first batch rest at).0 in
        let few_here = first_few w batch rest few at in
        let here : k.begins ≡ w.safe = k.first on ∙ ap (λ (b : Bool). cond b w.safe w.flight.upto) idle in
        record {
          flying = omega arith;
          begins = batch.upto;
          behind = omega arith;
          first = λ runs. refl;
          ends = λ off. ends_first batch rest at off;
          counted = (counted_first batch rest at).1;
          gathered = k.gathered;
          lost = k.lost;
        };
    lands = λ batch rest on at idle none.
        let same : batch.upto ≡ flown w = none_ends w batch rest order at idle none in
        record {
          flying = k.flying;
          begins = batch.upto;
          behind = (first_of w batch rest order at).0;
          first = λ runs. same;
          ends = λ off. ends_first batch rest at off;
          counted = (counted_first batch rest at).1;
          gathered = k.gathered;
          lost = k.lost;
        };
    goes_on = λ phase on busy still.
        let same : flown w ≡ cond (is_idle phase) w.safe w.flight.upto = flies_to w busy ∙ sym (ap (λ (b : Bool). cond b w.safe w.flight.upto) still) in
        record {
          flying = k.flying;
          begins = k.begins;
          behind = subst (λ (n : ℕ). n ≤ k.begins) same k.behind;
          first = λ runs. k.first runs ∙ same;
          ends = k.ends;
          counted = k.counted;
          gathered = k.gathered;
          lost = k.lost;
        };
    settled = λ on gate.
        let same = flies_to w (not_idle w.phase gate) in
        record {
          flying = omega arith;
          begins = k.begins;
          behind = subst (λ (n : ℕ). n ≤ k.begins) same k.behind;
          first = λ runs. k.first runs ∙ same;
          ends = k.ends;
          counted = k.counted;
          gathered = k.gathered;
          lost = k.lost;
        };
    answered = λ terminal c on at. k;
    heard = λ a on. k;
    failed = λ on is. record {
      flying = k.flying;
      begins = k.begins;
      behind = k.behind;
      first = λ runs. absurd (false≢true runs);
      ends = λ _. k.ends on;
      counted = k.counted;
      gathered = λ _. k.gathered on;
      lost = λ off. absurd (false≢true off);
    };
    cut = λ kept is_cut. record {
      flying = k.flying;
      begins = k.begins;
      behind = k.behind;
      first = λ runs. absurd (false≢true runs);
      ends = λ on. absurd (false≢true (sym on));
      counted = tt;
      gathered = λ on. absurd (false≢true (sym on));
      lost = λ _. gathered_few w (is_off w.power) refl few k;
    };
    reopened = λ kept may is_reopen. record {
      flying = omega arith;
      begins = length (Rattle.lift_world.specs.World.outcome w kept);
      behind = omega arith;
      first = λ runs. refl;
      ends = λ _. refl;
      counted = tt;
      gathered = λ _. omega arith;
      lost = λ off. absurd (false≢true off);
    };
  })

all_push : {A : Type 0} (P : A → Type 0) (xs : List A) (x : A) → AllByRecursion P xs → P x → AllByRecursion P (xs ++ x ∷ [])
all_push P [] x all one = (one, tt)
all_push P (y ∷ xs) x all one = (all.0, all_push P xs x all.1 one)

-- event by event, because each step reads how many commands are on their way before it
run_counts : (building : Plan) (base : RegisterState) (before events : List Event) → AllByRecursion IsOfTerminal before → AllByRecursion IsOfTerminal events
    → AreFew (run before (start building base)) → AreFew (run events (run before (start building base)))
run_counts building base before [] done to_come k = k
run_counts building base before (event ∷ events) done to_come k =
    let w : World = run before (start building base) in
    let step : AreFew (unwrap_or (next w event) w) = counts w (holds_few building base before done) (ordered_after building base before) k event in
    let same : run (before ++ event ∷ []) (start building base) ≡ unwrap_or (next w event) w = runs_join (start building base) before (event ∷ []) in
    subst (λ (x : World). AreFew (run events x)) same
    (run_counts building base (before ++ event ∷ []) events (all_push IsOfTerminal before event done to_come.0) to_come.1 (subst (λ (x : World). AreFew x) (sym same) step))

pub holds_few_entries : (building : Plan) (base : RegisterState) (events : List Event) → AllByRecursion IsOfTerminal events → HoldsFewEntries (run events (start building base))
holds_few_entries building base events all =
    let w : World = run events (start building base) in
    let few = holds_few building base events all in
    let k : AreFew w = run_counts building base [] events tt all (record {
      flying = omega arith;
      begins = 0;
      behind = omega arith;
      first = λ runs. refl;
      ends = λ _. refl;
      counted = tt;
      gathered = λ _. omega arith;
      lost = λ off. absurd (false≢true off);
    }) in
    let a = length-take (w.flight.upto - w.safe) (drop w.safe w.accepted) in
    let b = length-drop w.sealed w.accepted in
    let f = k.flying in
    let g = gathered_few w (is_off w.power) refl few k in
    record {
      flying = omega arith;
      begins = k.begins;
      behind = k.behind;
      first = k.first;
      queued = short_by k.begins w.queue k.counted (All-tail (λ (x : SealedBatch). length x.commands ≤ MOST_ENTRIES) w.flight w.queue few.batches);
      gathered = omega arith;
    }
