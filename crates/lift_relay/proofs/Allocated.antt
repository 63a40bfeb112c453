-- What a turn of the allocator leaves.
use Rattle.std.proofs.Common.{◌≡◌, ◌≢◌, ℕ, Bool, true, false, Option, Some, None, ◌<◌, ◌≤◌, ◌+◌, List, [], ◌∷◌, ◌++◌, length, refl, sym, ap, ◌∙◌, subst, append-nil, append_assoc, length-append, arith, inl, inr}
use Rattle.atomic_table.specs.Seated.{TableId}
use Rattle.lift_base.specs.declared.limits.TheConstants.{MOST_BATCHES, MOST_TERMINALS}
use Rattle.lift_base.specs.declared.history.Entry.{Entry}
use Rattle.lift_building.specs.Plan.{Plan}
use Rattle.lift_register.specs.Register.{RegisterState}
use Rattle.lift_stops.specs.Schedule.{ScheduleState}
use Rattle.lift_decider.specs.Decider.{state_of}
use Rattle.lift_policy.specs.View.{positions_of}
use Rattle.std.specs.Option.{option_to_list}
use Rattle.lift_desk.specs.Seats.{ClerkPlace, IsClerkOf}
use Rattle.lift_policy.specs.Eligible.{Choice}
use Rattle.lift_policy.specs.Step.{State}
use Rattle.lift_policy.specs.Run.{Run}
use Rattle.lift_clerk.specs.declared.counts.Counts.{Counts}
use Rattle.lift_clerk.specs.Turn.{without_batch}
use Rattle.lift_policy.specs.declared.command.Command.{Command}
use Rattle.lift_clerk.specs.Visits.{AreLooksAt, commands_of, looked_at}
use Rattle.std.proofs.lemmas.List.{length-map}
use Rattle.lift_parts.specs.declared.taken.NotedCommand.{NotedCommand}
use Rattle.lift_parts.specs.Batch.{BatchState, turns_of, turns_after, commands_in, replies_in, noted_in}
use Rattle.lift_parts.specs.Line.{most_batches, SendState, Tries, tried, Begins, IsNextBatch, WasFull}
use Rattle.lift_parts.specs.Scan.{TakesAt, turns_in}
use Rattle.lift_parts.specs.lemmas.Used.{most_turns}
use Rattle.lift_relay.specs.AllocatorInside.{SendsHand}
use Rattle.lift_relay.specs.Scanner.{ScannerState, HasScanned}
use Rattle.lift_relay.proofs.Queues.{full_by}
use Rattle.lift_parts.specs.Allocator.{AllocatorState, DecidesAlong, IsAllocator, IsFullTurn, IsScanTurn, IsAllocation}

-- one batch more
pub along_more : (plan : Plan) (choice : Choice) (start mid decided : State) (batches : List BatchState) (batch : BatchState) → DecidesAlong plan choice start batches mid
    → Run plan choice mid (commands_in batch.commands) (replies_in batch.commands) decided → batch.entries ≡ decided.batch
    → DecidesAlong plan choice start (batches ++ batch ∷ []) (without_batch decided)
along_more plan choice start mid decided [] batch along run entries =
    (decided, subst (λ (s : State). Run plan choice s (commands_in batch.commands) (replies_in batch.commands) decided) along run, entries, refl)
along_more plan choice start mid decided (b ∷ batches) batch along run entries = (along.0, along.1, along.2, along_more plan choice (without_batch along.0) mid decided batches batch along.3 run entries)

-- what decisions read, of the calls and the cars
pub based : (state : State) (register : RegisterState) (schedules : List (Option ScheduleState)) → register ≡ state.register → positions_of schedules ≡ state.positions → state.batch ≡ []
    → state_of register schedules [] ≡ state
based state register schedules same placed sealed = λ i. record { register = same i; positions = placed i; batch = sym sealed i }

-- an allocator of both its halves
abbrev pub allocator_of : {P : Type 0} → ScannerState P → SendState → List BatchState → AllocatorState P
allocator_of s end hand = record { desk = s.desk; seat = s.seat; plan = s.plan; state = s.state; start = s.start; policy = s.policy; end = end; hand = hand }

-- there is a turn for one batch more
pub few_sent : (desk : List TableId) (seat : List ClerkPlace) (sent : ℕ) → IsClerkOf desk seat → length desk ≤ MOST_TERMINALS → sent + 1 ≤ turns_in seat → sent < most_batches
few_sent desk seat sent seated few used =
    let many : length seat ≡ length desk = sym (length-map seat (λ (p : ClerkPlace). p.table)) ∙ ap length seated in
    let most = most_turns seat in
    omega arith

-- ---- after a scan, its batch is in hand, if it made one
no_items : (taken : List NotedCommand) → length taken ≡ 0 → taken ≡ []
no_items [] is = refl
no_items (t ∷ taken) is = absurd (omega arith)

module _ {P : Type 0} (chooses : P → Choice) (s n : ScannerState P) (end : SendState) (counts : Counts) (is : IsAllocator (chooses s.policy) (allocator_of s end [])) where
  module _ (scan : HasScanned (chooses s.policy) s n counts None) where
    nothing_taken : scan.taken ≡ []
    nothing_taken = no_items scan.taken scan.makes

    stays : n.state ≡ s.state
    stays =
        let run : scan.decided ≡ s.state = subst (λ (l : List NotedCommand). Run s.plan (chooses s.policy) s.state (commands_in l) (replies_in l) scan.decided) nothing_taken scan.scans.found.run in
        scan.after ∙ ap without_batch run ∙ ap (λ (b : List Entry). record s.state { batch = b }) (sym is.all_sealed)

    scanned_none : IsAllocator (chooses n.policy) (allocator_of n end [])
    scanned_none =
        subst (λ (v : ScannerState P). IsAllocator (chooses v.policy) (allocator_of v end [])) (sym scan.same)
        (record {
          seated = scan.seated;
          of_building = is.of_building;
          at_desk = is.at_desk;
          all_sealed = ap (λ (x : State). x.batch) stays ∙ is.all_sealed;
          decides = subst (λ (x : State). DecidesAlong s.plan (chooses s.policy) s.start (end.sent ++ []) x) (sym stays) is.decides;
          goes_on = (stays ∙ is.goes_on.0, sym scan.turns ∙ ap (turns_after (turns_of s.seat)) nothing_taken ∙ is.goes_on.1);
          few = let used = scan.uses in let was = is.few in omega arith;
        })

  scanned : (made : Option BatchState) → HasScanned (chooses s.policy) s n counts made → IsAllocator (chooses n.policy) (allocator_of n end (option_to_list made))
  scanned None scan = scanned_none scan
  scanned (Some batch) scan =
      let made = scan.makes.2 in
      let along = along_more s.plan (chooses s.policy) s.start s.state scan.decided (end.sent ++ []) batch is.decides made.run made.entries in
      subst (λ (v : ScannerState P). IsAllocator (chooses v.policy) (allocator_of v end (batch ∷ []))) (sym scan.same)
      (record {
        seated = made.seated;
        of_building = is.of_building;
        at_desk = is.at_desk;
        all_sealed = ap (λ (x : State). x.batch) scan.after;
        decides = subst (λ (p : List BatchState × State). DecidesAlong s.plan (chooses s.policy) s.start p.0 p.1) (λ i. (append-nil end.sent i ++ batch ∷ [], sym scan.after i)) along;
        goes_on = (subst (λ (p : State × List ℕ). IsNextBatch s.plan s.desk p.0 p.1 batch) (λ i. (is.goes_on.0 i, is.goes_on.1 i)) made.next, scan.after ∙ sym made.leads, made.turns);
        few = let used = made.uses in let was = is.few in omega arith;
      })

-- what was in hand before is sent by then
pub ahead : {P : Type 0} (chooses : P → Choice) (s n : ScannerState P) (end : SendState) (hand : List BatchState) (counts : Counts) (made held : Option BatchState) → IsAllocator (chooses s.policy) (allocator_of s end hand) → hand ≡ []
    → HasScanned (chooses s.policy) s n counts made → held ≡ made → IsAllocator (chooses n.policy) (allocator_of n end (option_to_list held))
ahead chooses s n end hand counts made held is none scan same =
    subst (λ (it : Option BatchState). IsAllocator (chooses n.policy) (allocator_of n end (option_to_list it))) (sym same)
    (scanned chooses s n end counts (subst (λ (l : List BatchState). IsAllocator (chooses s.policy) (allocator_of s end l)) none is) made scan)

-- ---- the turn: what was in hand was sent, the desk was scanned, and what that made was tried once
then_later : (first mid last : List BatchState) → Begins first mid → Begins mid last → Begins first last
then_later first mid last a b = (a.0 ++ b.0, b.1 ∙ ap (λ l. l ++ b.0) a.1 ∙ append_assoc first a.0 b.0)

-- what was tried once went through, or the line was full
record Tried {P : Type 0} (m new : AllocatorState P) : Type 0 where
  all : new.end.sent ++ new.hand ≡ m.end.sent ++ m.hand
  sent : Begins m.end.sent new.end.sent
  empty : m.hand ≡ [] → new.hand ≡ []
  full : new.hand ≢ [] → WasFull new.end × (new.end.tries ≡ tried m.end.tries true)
  same : new ≡ record m { end = new.end; hand = new.hand }
  line : new.end.line ≡ m.end.line
  later : Begins m.end.gone new.end.gone

tried_once : {P : Type 0} (m new : AllocatorState P) (counts : Counts) (sent : Bool) → (sent ≡ true → SendsHand m new) → (sent ≡ false → IsFullTurn m new counts) → Tried m new
tried_once {P} m new counts true goes waits =
    let s = goes refl in
    record {
      all = ap (λ l. new.end.sent ++ l) s.none ∙ append-nil new.end.sent ∙ s.sends.sent;
      sent = (m.hand, s.sends.sent);
      empty = λ _. s.none;
      full = λ held. absurd (held s.none);
      same = s.sends.same ∙ ap (λ l. record m { end = new.end; hand = l }) (sym s.none);
      line = s.sends.line;
      later = s.later;
    }
tried_once {P} m new counts false goes waits =
    let f = waits refl in
    let full = f.was_full in
    let end = ap (λ (a : AllocatorState P). a.end) f.same in
    let hand = ap (λ (a : AllocatorState P). a.hand) f.same in
    record {
      all = λ i. (end i).sent ++ hand i;
      sent = ([], ap (λ (e : SendState). e.sent) end ∙ sym (append-nil m.end.sent));
      empty = λ none. absurd (f.in_hand none);
      full = λ _. (subst WasFull (sym end) (record { items = full.items; four = full.four; received = full.received; all = full.all; later = full.later }), ap (λ (e : SendState). e.tries) end);
      same = f.same ∙ (λ i. record m { end = sym end i; hand = sym hand i });
      line = ap (λ (e : SendState). e.line) end;
      later = ([], ap (λ (e : SendState). e.gone) end ∙ sym (append-nil m.end.gone));
    }

some_command : (commands : List Command) (n : ℕ) → commands ≢ [] → n ≡ length commands → 0 < n
some_command [] n some is = absurd (some refl)
some_command (c ∷ commands) n some is = omega arith

module _ {P : Type 0} (choice : Choice) (old new : AllocatorState P) (s n : ScannerState P) (end : SendState) (hand : List BatchState) (counts : Counts) (sends : SendsHand old (allocator_of s end hand)) where
  turn_by : (made : Option BatchState) (scan : HasScanned choice s n counts made) → Tried (allocator_of n end (option_to_list made)) new → (batch : BatchState) → batch.commands ≡ scan.taken → batch.entries ≡ scan.decided.batch
      → (length scan.taken ≡ 0 → option_to_list made ≡ []) → (0 < length scan.taken → option_to_list made ≡ batch ∷ []) → IsScanTurn choice old new counts
  turn_by made scan tries batch commands entries nothing some =
      let same = sends.sends.same in
      let visits = scan.scans.visits in
      let found = scan.scans.found in
      let count : length scan.taken ≡ length (commands_of 0 visits) = sym (length-map scan.taken (λ (t : NotedCommand). t.command)) ∙ ap length found.commands in
      let sent = sends.sends.sent in
      record {
        visits = visits;
        batch = batch;
        decided = scan.decided;
        each_once = scan.scans.count ∙ ap (λ (a : AllocatorState P). length a.desk) same;
        takes = subst (λ (a : AllocatorState P). AreLooksAt TakesAt a.seat visits) same scan.scans.looks;
        looked = ap (λ (a : AllocatorState P). a.seat) tries.same ∙ scan.scans.looked ∙ ap (λ (a : AllocatorState P). looked_at a.seat visits) same;
        commands = ap commands_in commands ∙ found.commands;
        notes = ap noted_in commands ∙ found.notes;
        run = subst (λ (p : AllocatorState P × List Command × List NotedCommand). Run p.0.plan choice p.0.state p.1 (replies_in p.2) scan.decided) (λ i. (same i, found.commands i, sym commands i)) found.run;
        entries = entries;
        after = ap (λ (a : AllocatorState P). a.state) tries.same ∙ scan.after;
        nothing = λ none. let no = nothing (count ∙ ap length none) in (tries.all ∙ ap (λ l. end.sent ++ l) no ∙ append-nil end.sent ∙ sent, tries.empty no);
        some = λ any. tries.all ∙ (λ i. sent i ++ some (some_command (commands_of 0 visits) (length scan.taken) any count) i);
        sent = subst (λ (l : List BatchState). Begins l new.end.sent) sent tries.sent;
        full = λ held. (tries.full held).0;
        refused = λ held. (tries.full held).1 ∙ ap (λ (t : Tries). tried t true) sends.tries;
        same_place = (
          ap (λ (a : AllocatorState P). a.desk) tries.same ∙ ap (λ (v : ScannerState P). v.desk) scan.same ∙ ap (λ (a : AllocatorState P). a.desk) same,
          ap (λ (a : AllocatorState P). a.plan) tries.same ∙ ap (λ (v : ScannerState P). v.plan) scan.same ∙ ap (λ (a : AllocatorState P). a.plan) same,
          ap (λ (a : AllocatorState P). a.policy) tries.same ∙ ap (λ (v : ScannerState P). v.policy) scan.same ∙ ap (λ (a : AllocatorState P). a.policy) same,
          ap (λ (a : AllocatorState P). a.start) tries.same ∙ ap (λ (v : ScannerState P). v.start) scan.same ∙ ap (λ (a : AllocatorState P). a.start) same,
          tries.line ∙ sends.sends.line,
        );
        taken = scan.counted.0 ∙ count;
        accepted = scan.counted.1;
        later = then_later old.end.gone end.gone new.end.gone sends.later tries.later;
      }

  scan_turn : (made : Option BatchState) → HasScanned choice s n counts made → Tried (allocator_of n end (option_to_list made)) new → IsScanTurn choice old new counts
  scan_turn None scan tries =
      let none = scan.makes in
      turn_by None scan tries (record { commands = scan.taken; entries = scan.decided.batch; building = s.plan; before = s.state; after = n.state; desk = s.desk; turns = turns_of s.seat }) refl refl (λ _. refl) (λ any. absurd (omega arith))
  scan_turn (Some batch) scan tries =
      let some = scan.makes.0 in
      turn_by (Some batch) scan tries batch scan.makes.1 scan.makes.2.entries (λ none. absurd (omega arith)) (λ _. refl)

pub turned : {P : Type 0} (chooses : P → Choice) (old a new : AllocatorState P) (s n : ScannerState P) (end : SendState) (hand : List BatchState) (counts idle : Counts) (made held : Option BatchState) (sent : Bool) → allocator_of s end hand ≡ a
    → SendsHand old a → HasScanned (chooses s.policy) s n counts made → held ≡ made → (sent ≡ true → SendsHand (allocator_of n end (option_to_list held)) new) → (sent ≡ false → IsFullTurn (allocator_of n end (option_to_list held)) new idle)
    → IsAllocation (chooses old.policy) old new counts
turned {P} chooses old a new s n end hand counts idle made held sent is sends scan same goes waits =
    let before = subst (SendsHand old) (sym is) sends in
    let tries = subst (λ (it : Option BatchState). Tried (allocator_of n end (option_to_list it)) new) same (tried_once (allocator_of n end (option_to_list held)) new idle sent goes waits) in
    subst (λ (p : P). IsAllocation (chooses p) old new counts) (ap (λ (v : AllocatorState P). v.policy) before.sends.same) (inr (scan_turn (chooses s.policy) old new s n end hand counts before made scan tries))

-- ---- what a turn leaves
pub looks : {P : Type 0} (choice : Choice) (old new : AllocatorState P) (counts : Counts) → IsAllocation choice old new counts → length old.end.sent < length old.end.gone + MOST_BATCHES → IsScanTurn choice old new counts
looks choice old new counts (inl full) few = absurd (let most = full_by old.end full.was_full in omega arith)
looks choice old new counts (inr scan) few = scan

none_left : {P : Type 0} (choice : Choice) (old new : AllocatorState P) (counts : Counts) (scan : IsScanTurn choice old new counts) → length old.end.sent + length old.hand < length old.end.gone + MOST_BATCHES
    → (hand : List BatchState) → new.hand ≡ hand → (commands : List Command) → commands_of 0 scan.visits ≡ commands → hand ≡ []
none_left choice old new counts scan few [] is commands are = refl
none_left choice old new counts scan few (b ∷ hand) is [] are = sym is ∙ (scan.nothing are).1
none_left choice old new counts scan few (b ∷ hand) is (c ∷ commands) are =
    let full = full_by new.end (scan.full (λ none. absurd (cc))) in
    let all = scan.some (λ none. absurd (cc)) in
    absurd (omega (
      arith,
      ap length all,
      length-append new.end.sent new.hand,
      length-append (old.end.sent ++ old.hand) (scan.batch ∷ []),
      length-append old.end.sent old.hand,
      ap length is,
      ap length scan.later.1,
      length-append old.end.gone scan.later.0,
    ))

pub none_in_hand : {P : Type 0} (choice : Choice) (old new : AllocatorState P) (counts : Counts) → IsAllocation choice old new counts → length old.end.sent + length old.hand < length old.end.gone + MOST_BATCHES → new.hand ≡ []
none_in_hand choice old new counts turn few =
    let scan = looks choice old new counts turn (omega arith) in
    none_left choice old new counts scan few new.hand refl (commands_of 0 scan.visits) refl
