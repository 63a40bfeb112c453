-- A group begins where nothing was answered: over whatever register a journal holds.
use Rattle.std.proofs.Common.{ℕ, [], refl, sym, subst}
use Rattle.std.proofs.lemmas.List.Elements.{All-nil}
use Rattle.lift_building.specs.Plan.{Plan, IsBuilding, shape_of}
use Rattle.lift_disk.specs.Disk.{DiskState, Image}
use Rattle.lift_register.specs.Register.{RegisterState, empty}
use Rattle.lift_register.specs.lemmas.EntryLemmas.{register_of-nothing}
use Rattle.lift_register.specs.lemmas.Laws.{IsWellFormed-empty}
use Rattle.lift_journal.specs.Journal.{ReadsAs}
use Rattle.lift_journal.specs.lemmas.Chains.{all_same}
use Rattle.lift_keeper.specs.Images.{IsImageOf}
use Rattle.lift_world.specs.Headline.{IsOfBuilding, IsHeld, StillNames}
use Rattle.lift_world.specs.lemmas.Entries.{over_nothing}
use Rattle.lift_clerk.specs.History.{Began}
use Rattle.lift_clerk.specs.Keeping.{KeepsPrefix}
use Rattle.lift_clerk.specs.lemmas.Based.{image_of_building}
use Rattle.lift_serve.specs.Keeping.{ImagesKeep, MadeKeeps}

pub images_keep : {D : Type 0} → ImagesKeep D
images_keep {D} plan register image sound reads =
    let of : IsOfBuilding plan register = image_of_building plan register image sound reads in (
      [],
      ([], refl),
      record {
        reads = subst (λ (r : RegisterState). IsImageOf plan r image) (sym (over_nothing plan register of)) reads;
        holds = All-nil (IsHeld register []);
        letters = All-nil (StillNames register []);
        goes_on = λ clerk over.
            Began (subst (λ (p : Plan). IsBuilding p) (sym over.same_plan) sound)
            (subst (λ (p : Plan). IsOfBuilding p register) (sym over.same_plan) of) over.begins
            (sym (over.only register reads));
      },
    )

-- what `format` made
made_empty : (plan : Plan) (half : ℕ) (image : Image) → ReadsAs (shape_of plan half) [] [] image
    → IsImageOf plan empty image
made_empty plan half image reads = record {
  half = half;
  base = [];
  entries = [];
  reads = reads;
  is = record {
    base_fits = tt;
    entries_fit = tt;
    is = sym (register_of-nothing empty IsWellFormed-empty);
  };
}

pub made_keeps : {D M : Type 0} (state : M → DiskState) → MadeKeeps D M state
made_keeps {D} state plan half made sound reads synced honest left may =
    subst (λ (i : Image). KeepsPrefix D plan empty [] [] i)
    (sym (all_same (state made).is_loose (state made).image left (synced honest).none_loose may))
    (images_keep plan empty (state made).image sound
    (made_empty plan half (state made).image (reads honest)))
