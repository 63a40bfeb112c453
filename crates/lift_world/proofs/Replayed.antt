-- The register of a list, entry by entry, and what a recovery gives.
use Rattle.std.proofs.Common.{ℕ, ◌≡◌, ◌+◌, ◌-◌, ◌<◌, Bool, ◌||◌, List, [], ◌∷◌, ◌++◌, length, take, drop, get_or, refl, sym, ap, subst, ◌∙◌, arith, append_assoc, suc, zero}
use Rattle.std.specs.List.{list_any, flat_map}
use Rattle.std.proofs.Math.Seq.{take-add}
use Rattle.std.proofs.lemmas.List.Folds.{list_any-append}
use Rattle.lift_base.specs.declared.history.Entry.{Entry}
use Rattle.lift_building.specs.Plan.{Plan}
use Rattle.lift_register.specs.Register.{RegisterState, register_of}
use Rattle.lift_register.specs.Fits.{Fits}
use Rattle.lift_world.specs.declared.event.Taken.{Taken}
use Rattle.lift_world.specs.World.{World, SealedBatch}
use Rattle.lift_world.specs.Next.{unanswered}
use Rattle.lift_world.specs.Replays.{FitAfter}

-- each entry fits the register of those before it
fits_later : (building : Plan) (base : RegisterState) (before entries : List Entry) (i : ℕ) (d : Entry) → i < length entries → FitAfter building base before entries → Fits building (register_of base (before ++ take i entries)) (get_or entries i d)
fits_later building base before [] i d below h = absurd (omega arith)
fits_later building base before (e ∷ entries) zero d below h = subst (λ (xs : List Entry). Fits building (register_of base xs) e) (sym (Rattle.std.proofs.lemmas.List.append-nil before)) h.0
fits_later building base before (e ∷ entries) (suc i) d below h =
    subst (λ (xs : List Entry). Fits building (register_of base xs) (get_or entries i d)) (append_assoc before (e ∷ []) (take i entries))
    (fits_later building base (before ++ e ∷ []) entries i d (omega (arith, Rattle.std.proofs.lemmas.List.length_push entries e)) h.1)

pub fits_at : (building : Plan) (base : RegisterState) (entries : List Entry) (i : ℕ) (d : Entry) → i < length entries → FitAfter building base [] entries → Fits building (register_of base (take i entries)) (get_or entries i d)
fits_at building base entries i d below h = fits_later building base [] entries i d below h

-- a prefix fits too
pub fits_front : (building : Plan) (base : RegisterState) (before xs : List Entry) (n : ℕ) → FitAfter building base before xs → FitAfter building base before (take n xs)
fits_front building base before [] zero h = tt
fits_front building base before [] (suc n) h = tt
fits_front building base before (x ∷ xs) zero h = tt
fits_front building base before (x ∷ xs) (suc n) h = (h.0, fits_front building base (before ++ x ∷ []) xs n h.1)

-- a search through all batches
flat_any : (p : Taken → Bool) (queue : List SealedBatch) → list_any p (flat_map (λ (b : SealedBatch). b.commands) queue) ≡ list_any (λ (b : SealedBatch). list_any p b.commands) queue
flat_any p [] = refl
flat_any p (b ∷ queue) = list_any-append p b.commands (flat_map (λ (c : SealedBatch). c.commands) queue) ∙ ap (λ (x : Bool). list_any p b.commands || x) (flat_any p queue)

pub unanswered_any : (p : Taken → Bool) (w : World) → list_any p (unanswered w)
    ≡ (((list_any p w.due || list_any p w.flight.commands) || list_any (λ (b : SealedBatch). list_any p b.commands) w.queue) || list_any p w.taken)
unanswered_any p w =
    list_any-append p (w.due ++ w.flight.commands ++ flat_map (λ (b : SealedBatch). b.commands) w.queue) w.taken
    ∙ ap (λ (x : Bool). x || list_any p w.taken) (list_any-append p (w.due ++ w.flight.commands) (flat_map (λ (b : SealedBatch). b.commands) w.queue)
    ∙ ap (λ (x : Bool). x || list_any p (flat_map (λ (b : SealedBatch). b.commands) w.queue)) (list_any-append p w.due w.flight.commands)
    ∙ ap (λ (x : Bool). (list_any p w.due || list_any p w.flight.commands) || x) (flat_any p w.queue))

-- the prefix that a recovery with the batch gives
pub batch_front : (xs : List Entry) (s u n : ℕ) → n ≡ s + (u - s) → take n xs ≡ take s xs ++ take (u - s) (drop s xs)
batch_front xs s u n e = ap (λ (m : ℕ). take m xs) e ∙ take-add s (u - s) xs
