-- What recoveries give are records that the journal may hold.
use Rattle.std.proofs.Common.{ℕ, ◌≡◌, ◌-◌, ◌≤◌, true, eqb, List, [], ◌∷◌, ◌++◌, take, drop, All, Option, Some, sym, ap, subst, ◌∙◌, inl, inr, arith, append_assoc}
use Rattle.std.specs.Prelude.{unwrap_or, reverse}
use Rattle.std.specs.List.{AllByRecursion}
use Rattle.std.proofs.lemmas.Bool.{false≢true, and_parts, eqb-true}
use Rattle.std.proofs.lemmas.List.{take-append-drop}
use Rattle.std.proofs.lemmas.List.Elements.{All-nil, All-push, All-append, All-contains, All-take, All-drop}
use Rattle.lift_base.specs.History.{terminal_of, number_of}
use Rattle.lift_base.specs.declared.history.Record.TheVariants.{Entry as EntryRecord}
use Rattle.lift_base.specs.Records.{IsRecord, IsTyped, IsTypedCommand}
use Rattle.lift_base.specs.declared.history.Entry.{Entry}
use Rattle.lift_base.specs.declared.history.Entry.TheVariants.{Allot, Stop as Stopping}
use Rattle.lift_base.specs.declared.history.Content.TheVariants.{Letter}
use Rattle.lift_base.specs.declared.command.Body.{Body}
use Rattle.lift_base.specs.declared.command.Body.TheVariants.{Call, Stop, Place}
use Rattle.lift_building.specs.Plan.{Plan, IsBuilding, serves_floor}
use Rattle.lift_register.specs.Register.{RegisterState, kept_of, register_of}
use Rattle.lift_register.specs.Fits.{Fits}
use Rattle.lift_register.specs.lemmas.Laws.{IsRecord-fitting}
use Rattle.lift_base.specs.declared.limits.TheConstants.{LAST_TERMINAL}
use Rattle.lift_policy.specs.declared.command.Command.{Command}
use Rattle.lift_policy.specs.Laws.{IsTypedBody, Joins}
use Rattle.lift_policy.specs.Step.{State, is_same}
use Rattle.lift_policy.specs.lemmas.Joins.{Step-joins}
use Rattle.lift_world.specs.declared.event.Kept.{Kept}
use Rattle.lift_world.specs.declared.event.Kept.TheVariants.{Safe, WithBatch}
use Rattle.lift_world.specs.declared.event.Event.{Event}
use Rattle.lift_policy.specs.Decision.{Decision}
use Rattle.lift_world.specs.Decided.{decided}
use Rattle.lift_world.specs.World.{World, start, state_of, outcome, asks}
use Rattle.lift_world.specs.Next.{run, next}
use Rattle.lift_world.specs.Tie.{naming}
use Rattle.lift_world.specs.Lawful.{IsTypedEvent, AcceptsRecords}
use Rattle.lift_world.specs.lemmas.Decisions.{true_of, fits_allotted, served_floor}
use Rattle.lift_world.specs.lemmas.Entries.{find_held, reverse_held}
use Rattle.lift_world.specs.lemmas.Leads.{leads}
use Rattle.lift_world.specs.lemmas.Steps.{decided_step}

-- the party of a call is the one that was asked for
party_typed : (body : Body) (from to car party : ℕ) → IsTypedBody body → is_same body (Letter from to car party) ≡ true → (1 ≤ party) × (party ≤ 15)
party_typed (Call goal persons) from to car party typed same =
    let e : party ≡ persons = eqb-true party persons (and_parts (eqb to goal) (eqb party persons) same).1 in
    subst (λ (n : ℕ). (1 ≤ n) × (n ≤ 15)) (sym e) typed.1
party_typed (Stop floor dir) from to car party typed same = absurd (false≢true same)
party_typed (Place floor dir) from to car party typed same = absurd (false≢true same)

command_typed : (terminal number of_terminal of_number : ℕ) → IsTypedCommand terminal number → of_terminal ≡ terminal → of_number ≡ number → IsTypedCommand of_terminal of_number
command_typed terminal number t n k e f =
    record { terminal_range = subst (λ (x : ℕ). x ≤ LAST_TERMINAL) (sym e) k.terminal_range; number_range = subst (λ (x : ℕ). x ≤ 16777215) (sym f) k.number_range }

-- an entry that keeps a typed command, and fits, is typed
entry_typed : (building : Plan) (register : RegisterState) (terminal number : ℕ) (body : Body) (e : Entry) → IsBuilding building → IsTypedCommand terminal number → IsTypedBody body
    → terminal_of e ≡ terminal → number_of e ≡ number → is_same body (kept_of e).content ≡ true → Fits building register e → IsTyped (EntryRecord e)
entry_typed building register terminal number body (Allot k n from to car party) sound typed typed_body t m same fits =
    let good = fits_allotted building register (Allot k n from to car party) sound fits in
    let a = good.from_below in
    let b = good.to_below in
    let c = good.car_below in (
      command_typed terminal number k n typed t m,
      record { from_range = omega arith; to_range = omega arith; car_range = omega arith; party_range = party_typed body from to car party typed_body same },
    )
entry_typed building register terminal number body (Stopping car n floor dir) sound typed typed_body t m same fits =
    let few_cars = sound.limits.few_cars in
    let few_floors = sound.limits.few_floors in
    let by_car = fits.0.by_car in
    let at = served_floor building car floor sound (true_of (serves_floor building car floor) fits.0.served) in
    (command_typed terminal number car n typed t m, omega arith, omega arith)

abbrev IsWritable : Entry → Type 0
IsWritable e = IsRecord (EntryRecord e)

abbrev IsTypedAsk : Command → Type 0
IsTypedAsk c = IsTypedCommand c.terminal c.number × IsTypedBody c.body

pub record Writes (w : World) : Type 0 where
  pub sound : IsBuilding w.building
  pub typed : All IsTypedAsk w.asked
  pub writable : All IsWritable w.accepted

one_more : (w : World) (e : Entry) → take w.sealed w.accepted ++ (drop w.sealed w.accepted ++ e ∷ []) ≡ w.accepted ++ e ∷ []
one_more w e = sym (append_assoc (take w.sealed w.accepted) (drop w.sealed w.accepted) (e ∷ [])) ∙ ap (λ (xs : List Entry). xs ++ e ∷ []) (take-append-drop w.sealed w.accepted)

joined_writable : (w : World) (command : Command) (next : State) (e : Entry) → Writes w → IsTypedAsk command → Joins w.building (state_of w) command.terminal command.number command.body e next
    → All IsWritable (take w.sealed w.accepted ++ next.batch)
joined_writable w command next e k typed j =
    subst (λ (xs : List Entry). All IsWritable xs) (sym (ap (λ (xs : List Entry). take w.sealed w.accepted ++ xs) j.batch ∙ one_more w e))
    (All-push IsWritable w.accepted e k.writable (IsRecord-fitting w.building (register_of w.base w.accepted) e
    (entry_typed w.building (register_of w.base w.accepted) command.terminal command.number command.body e k.sound typed.0 typed.1 j.of_terminal j.of_number j.says j.fits) j.fits))

decided_writable : (w : World) (command : Command) (letter : Option ℕ) (d : Decision) → Writes w → IsTypedAsk command
    → decided w.building (state_of w) command.terminal command.number command.body letter ≡ Some d → All IsWritable (take w.sealed w.accepted ++ d.next.batch)
decided_writable w command letter d k typed made =
    let step = decided_step w.building (state_of w) command.terminal command.number command.body letter d made in
    elim (Step-joins w.building (naming letter) (state_of w) command.terminal command.number command.body d.reply d.next step) [
      | inl none ↦ subst (λ (xs : List Entry). All IsWritable xs) (sym (ap (λ (xs : List Entry). take w.sealed w.accepted ++ xs) none.batch ∙ take-append-drop w.sealed w.accepted)) k.writable
      | inr one ↦ joined_writable w command d.next one.0 k typed one.1
    ]

outcome_writable : (w : World) (kept : Kept) → All IsWritable w.accepted → All IsWritable (outcome w kept)
outcome_writable w Safe all = All-take IsWritable w.safe w.accepted all
outcome_writable w WithBatch all =
    All-append IsWritable (take w.safe w.accepted) (take (w.flight.upto - w.safe) (drop w.safe w.accepted)) (All-take IsWritable w.safe w.accepted all)
    (All-take IsWritable (w.flight.upto - w.safe) (drop w.safe w.accepted) (All-drop IsWritable w.safe w.accepted all))

writes : (w : World) (event : Event) → IsTypedEvent event → Writes w → Writes (unwrap_or (next w event) w)
writes w event typed k = leads Writes w event (record {
  stays = k;
  asked = λ command on may is. record { sound = k.sound; typed = All-push IsTypedAsk w.asked command k.typed (subst IsTypedEvent is typed); writable = k.writable };
  taken = λ terminal letter command d on may at made is_take. record {
    sound = k.sound;
    typed = k.typed;
    writable = decided_writable w command letter d k
        (All-contains IsTypedAsk w.asked command k.typed (reverse_held w.asked command (find_held (asks terminal) (reverse w.asked) command at).0)) made;
  };
  sealed = λ on some is_seal. record { sound = k.sound; typed = k.typed; writable = k.writable };
  fails = λ batch rest on at broken. record { sound = k.sound; typed = k.typed; writable = k.writable };
  flies = λ batch rest on at idle more. record { sound = k.sound; typed = k.typed; writable = k.writable };
  lands = λ batch rest on at idle none. record { sound = k.sound; typed = k.typed; writable = k.writable };
  goes_on = λ phase on busy still. record { sound = k.sound; typed = k.typed; writable = k.writable };
  settled = λ on gate. record { sound = k.sound; typed = k.typed; writable = k.writable };
  answered = λ terminal c on at. record { sound = k.sound; typed = k.typed; writable = k.writable };
  heard = λ a on. record { sound = k.sound; typed = k.typed; writable = k.writable };
  failed = λ on is. record { sound = k.sound; typed = k.typed; writable = k.writable };
  cut = λ kept is. record { sound = k.sound; typed = All-nil IsTypedAsk; writable = k.writable };
  reopened = λ kept may is_reopen. record { sound = k.sound; typed = k.typed; writable = outcome_writable w kept k.writable };
})

run_writes : (events : List Event) (w : World) → AllByRecursion IsTypedEvent events → Writes w → Writes (run events w)
run_writes [] w typed k = k
run_writes (event ∷ events) w typed k = run_writes events (unwrap_or (next w event) w) typed.1 (writes w event typed.0 k)

pub accepts_records : (building : Plan) (base : RegisterState) (events : List Event) → IsBuilding building → AllByRecursion IsTypedEvent events → AcceptsRecords (run events (start building base))
accepts_records building base events sound typed =
    (run_writes events (start building base) typed (record { sound = sound; typed = All-nil IsTypedAsk; writable = All-nil IsWritable })).writable
