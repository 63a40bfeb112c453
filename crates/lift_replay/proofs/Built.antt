-- A building's text says a building, or has a first fault.
use Rattle.std.proofs.Common.{◌≡◌, ◌≢◌, ◌⊎◌, ℕ, ◌<◌, List, Result, Ok, Err, refl, sym, ap, ◌∙◌, subst, inl, inr}
use Rattle.std.specs.Prelude.{MatchResult}
use Rattle.std.proofs.lemmas.Bool.Decides.{leb_tells}
use Rattle.lift_building.specs.Plan.{Plan, HasNoDetour, IsBuilding, IsDirect, IsFirstDetour, detour_ms, flight_ms}
use Rattle.lift_building.specs.Describes.{IsTextOf}
use Rattle.lift_building.specs.Gives.{IsFirstFault, NamesDetour}
use Rattle.lift_building.specs.Reading.{plan_in, document_of, plan_of}
use Rattle.lift_building.specs.declared.fault.BuildingFault.{BuildingFault}
use Rattle.lift_building.specs.declared.fault.BuildingFault.TheVariants.{Detour, Memory}
use Rattle.lift_building.specs.lemmas.Again.{text_is}
use Rattle.lift_building.specs.lemmas.Limits.{bind_ok, plan_ok}
use Rattle.lift_building.specs.lemmas.Spares.{text_spares}
use Rattle.lift_replay.proofs.Found.{IsDecided, IsLeast, Within, within, below, least}

-- the first detour of a plan, if it has one
module _ (plan : Plan) (text : List ℕ) where
  abbrev Longer : ℕ → ℕ → ℕ → Type 0
  Longer i j k = detour_ms plan i j k < flight_ms plan i k

  direct : (i j k : ℕ) → (Longer i j k → ⊥) → IsDirect plan i j k
  direct i j k not = elim (leb_tells (flight_ms plan i k) (detour_ms plan i j k)) [ inl is ↦ is.1 | inr longer ↦ absurd (not longer.1) ]

  abbrev By : ℕ → ℕ → Type 0
  By i j = Within plan.floors (Longer i j)

  abbrev From : ℕ → Type 0
  From i = Within plan.floors (By i)

  to : (i j k : ℕ) → IsDecided (Longer i j k)
  to i j k = below (detour_ms plan i j k) (flight_ms plan i k)

  by : (i j : ℕ) → IsDecided (By i j)
  by i j = within (Longer i j) (to i j) plan.floors

  from : (i : ℕ) → IsDecided (From i)
  from i = within (By i) (by i) plan.floors

  named : (i j k : ℕ) → IsLeast From plan.floors i → IsLeast (By i) plan.floors j → IsLeast (Longer i j) plan.floors k → IsFirstDetour plan i j k
  named i j k p q r = record {
    from = p.below;
    here = record {
      by = q.below;
      to = r.below;
      longer = r.holds;
      no_earlier_by = λ b c earlier inside. direct i b c (λ longer. q.first b earlier (c, inside, longer));
      no_earlier_to = λ c earlier. direct i j c (r.first c earlier);
    };
    no_earlier_from = λ a b c earlier within_b within_c. direct a b c (λ longer. p.first a earlier (b, within_b, (c, within_c, longer)));
  }

  found_to : (i j : ℕ) → IsLeast From plan.floors i → IsLeast (By i) plan.floors j → (fault : BuildingFault) × (fault ≢ Memory text) × NamesDetour plan fault
  found_to i j p q = elim (least (Longer i j) (to i j) plan.floors) [
    | inl k ↦ (Detour i j k.0, (λ e. cc), named i j k.0 p q k.1)
    | inr none ↦ absurd (none q.holds.0 q.holds.1 q.holds.2)
  ]

  found_by : (i : ℕ) → IsLeast From plan.floors i → (fault : BuildingFault) × (fault ≢ Memory text) × NamesDetour plan fault
  found_by i p = elim (least (By i) (by i) plan.floors) [
    | inl j ↦ found_to i j.0 p j.1
    | inr none ↦ absurd (none p.holds.0 p.holds.1 p.holds.2)
  ]

  pub detoured : ((fault : BuildingFault) × (fault ≢ Memory text) × NamesDetour plan fault) ⊎ HasNoDetour plan
  detoured = elim (least From from plan.floors) [
    | inl i ↦ inl (found_by i.0 i.1)
    | inr none ↦ inr (λ i j k within_i within_j within_k. direct i j k (λ longer. none i within_i (j, within_j, (k, within_k, longer))))
  ]

-- a text has a first fault, which is not that memory ran out, or says a building
pub faulty_or_says : (text : List ℕ) → ((fault : BuildingFault) × (fault ≢ Memory text) × IsFirstFault text fault) ⊎ ((plan : Plan) × IsTextOf text plan × IsBuilding plan)
faulty_or_says text = by_read (plan_of text) refl
  where
    by_read : (read : Result Plan BuildingFault) → plan_of text ≡ read → ((fault : BuildingFault) × (fault ≢ Memory text) × IsFirstFault text fault) ⊎ ((plan : Plan) × IsTextOf text plan × IsBuilding plan)
    by_read (Err fault) is = inl (fault, (λ e. text_spares text text (is ∙ ap Err e)), subst (λ r. MatchResult r (λ plan. NamesDetour plan fault) (λ first. fault ≡ first)) (sym is) refl)
    by_read (Ok plan) is = elim (detoured plan text) [
      | inl named ↦ inl (named.0, named.1, subst (λ r. MatchResult r (λ p. NamesDetour p named.0) (λ first. named.0 ≡ first)) (sym is) named.2)
      | inr none ↦ inr (plan, text_is text plan is, record { limits = (let read = bind_ok (document_of text) plan_in plan is in plan_ok read.0 plan read.2); no_detour = none })
    ]
