-- Whatever register an image reads as is one of the building.
use Rattle.std.proofs.Common.{ℕ, ◌≡◌, ◌<◌, List, [], ◌∷◌, length, map, Option, Some}
use Rattle.std.proofs.Common.{None, All, sym, subst, ◌∙◌, inl, inr, arith}
use Rattle.std.proofs.lemmas.Bool.{cases_lt}
use Rattle.std.proofs.lemmas.List.{length-set, get_or_past}
use Rattle.std.proofs.lemmas.List.Elements.{All-nil, All-cons, All-contains}
use Rattle.lift_base.specs.declared.limits.TheConstants.{MOST_TERMINALS}
use Rattle.lift_base.specs.History.{terminal_of}
use Rattle.lift_base.specs.declared.history.Content.{Content}
use Rattle.lift_base.specs.declared.history.Content.TheVariants.{Letter, Stopped}
use Rattle.lift_base.specs.declared.history.Entry.{Entry}
use Rattle.lift_base.specs.declared.history.Entry.TheVariants.{Allot, Stop}
use Rattle.lift_base.specs.declared.history.Last.{Last}
use Rattle.lift_base.specs.declared.history.Record.{Record}
use Rattle.lift_base.specs.declared.history.Record.TheVariants.{Entry as EntryRecord, Row as RowRecord}
use Rattle.lift_base.specs.declared.history.Record.TheVariants.{Last as LastRecord}
use Rattle.lift_base.specs.declared.history.Record.TheVariants.{Done as DoneRecord}
use Rattle.lift_building.specs.Plan.{Plan, IsBuilding}
use Rattle.lift_disk.specs.Disk.{Image}
use Rattle.lift_register.specs.Register.{RegisterState, register_of, empty, last_of, last_after}
use Rattle.lift_register.specs.Register.{kept_of}
use Rattle.lift_register.specs.Register as Registers
use Rattle.lift_register.specs.Fits.{IsPossibleLast, FitFrom}
use Rattle.lift_register.specs.Base.{with_record, with_records, BaseFitFrom}
use Rattle.lift_register.specs.lemmas.KeptLemmas.{lasts-kept}
use Rattle.lift_register.specs.lemmas.Laws.{last_of-empty}
use Rattle.lift_register.specs.lemmas.Sums.{length-on_cars, length-on_terminals}
use Rattle.lift_register.specs.Register.{rows_after}
use Rattle.lift_keeper.specs.Images.{IsImageOf}
use Rattle.lift_keeper.specs.Recovery.{entries_of}
use Rattle.lift_world.specs.Headline.{IsOfBuilding, IsHeld}
use Rattle.lift_world.specs.lemmas.Entries.{kept_entry, IsKeptEntry}

-- a terminal of the building is one of 63
below_63 : (plan : Plan) (terminal : ℕ) (content : Content) → IsBuilding plan
    → IsPossibleLast plan terminal content → terminal < MOST_TERMINALS
below_63 plan terminal (Letter from to car party) sound possible =
    let of_kiosk = possible.of_kiosk in
    let few = sound.limits.few_kiosks in
    omega (arith, of_kiosk.0, of_kiosk.1)
below_63 plan terminal (Stopped floor dir) sound possible =
    let by_car = possible.by_car in
    let few = sound.limits.few_cars in
    omega arith

abbrev SaidLast : Plan → RegisterState → Type 0
SaidLast plan register = (terminal : ℕ) (last : Last) → last_of register terminal ≡ Some last
    → IsPossibleLast plan terminal last.content

-- the records of a checkpoint
said_last : (plan : Plan) (register : RegisterState) (records : List Record) → IsBuilding plan
    → length register.lasts ≡ MOST_TERMINALS → SaidLast plan register → BaseFitFrom plan register records
    → SaidLast plan (with_records register records)
said_last plan register [] sound count said fit = said
said_last plan register (RowRecord row ∷ later) sound count said fit =
    said_last plan (with_record register (RowRecord row)) later sound count said fit.1
said_last plan register (LastRecord terminal last ∷ later) sound count said fit =
    let here : IsPossibleLast plan terminal last.content = fit.0.1 in
    let below = below_63 plan terminal last.content sound here in
    said_last plan (with_record register (LastRecord terminal last)) later sound (length-set register.lasts terminal (Some last) ∙ count)
    (lasts-kept (λ (t : ℕ) (l : Last). IsPossibleLast plan t l.content) register.lasts terminal last
    (omega (arith, count)) here said) fit.1
said_last plan register (DoneRecord count ∷ later) sound long said fit =
    said_last plan (with_record register (DoneRecord count)) later sound long said fit.1
said_last plan register (EntryRecord entry ∷ later) sound count said fit = absurd fit.0.1

-- the entries after it
abbrev IsSaid : Plan → Entry → Type 0
IsSaid plan entry = IsPossibleLast plan (terminal_of entry) (kept_of entry).content

all_said : (plan : Plan) (register : RegisterState) (entries : List Entry)
    → FitFrom plan register entries → All (IsSaid plan) entries
all_said plan register [] fit = All-nil (IsSaid plan)
all_said plan register (Allot kiosk number from to car party ∷ later) fit =
    All-cons (IsSaid plan) (Allot kiosk number from to car party) later fit.0.0
    (all_said plan (register_of register (Allot kiosk number from to car party ∷ [])) later fit.1)
all_said plan register (Stop car number floor dir ∷ later) fit =
    All-cons (IsSaid plan) (Stop car number floor dir) later fit.0.0
    (all_said plan (register_of register (Stop car number floor dir ∷ [])) later fit.1)

module _ (plan : Plan) (base : RegisterState) (entries : List Entry) (said : SaidLast plan base)
    (fit : FitFrom plan base entries) where
  held_said : (entry : Entry) → IsHeld base entries entry → IsSaid plan entry
  held_said entry (inl among) =
      All-contains (IsSaid plan) entries entry (all_said plan base entries fit) among
  held_said entry (inr was) = said (terminal_of entry) (kept_of entry) was

  said_by : (terminal : ℕ) (last : Last) → IsKeptEntry base entries terminal last
      → IsPossibleLast plan terminal last.content
  said_by terminal last k =
      subst (λ (t : ℕ). IsPossibleLast plan t last.content) k.terminal_is
      (subst (λ (l : Last). IsPossibleLast plan (terminal_of k.entry) l.content) k.kept_is
      (held_said k.entry k.held))

  after_said : SaidLast plan (register_of base entries)
  after_said terminal last is = elim (cases_lt terminal MOST_TERMINALS) [
    | inl below ↦ said_by terminal last (kept_entry base entries terminal last below is)
    | inr above ↦ (let none : None ≡ Some last =
        sym (get_or_past (map (last_after base entries) Registers.terminals) terminal None
        (omega (arith, above, length-on_terminals (last_after base entries)))) ∙ is in
        absurd (let wrong : ⊥ = cc in wrong))
  ]

pub image_of_building : (plan : Plan) (register : RegisterState) (image : Image) → IsBuilding plan
    → IsImageOf plan register image → IsOfBuilding plan register
image_of_building plan register image sound k =
    let base : RegisterState = with_records empty k.base in
    let nothing : SaidLast plan empty = λ terminal last is.
    let none : None ≡ Some last = sym (last_of-empty terminal) ∙ is in absurd (let wrong : ⊥ = cc in wrong) in
    let said : SaidLast plan base =
    said_last plan empty k.base sound (length-on_terminals (λ t. let none : Option Last = None in none))
    nothing k.is.base_fits in
    subst (IsOfBuilding plan) (sym k.is.is) (record {
      row_count = length-on_cars (rows_after base (entries_of k.entries));
      last_count = length-on_terminals (last_after base (entries_of k.entries));
      lasts = after_said plan base (entries_of k.entries) said k.is.entries_fit;
    })
