-- A script has one report.
use Rattle.std.proofs.Common.{◌≡◌, ◌≢◌, ℕ, ◌<◌, List, [], ◌∷◌, ◌++◌, All, Result, Ok, Err, refl, sym, ap, ◌∙◌, subst, inl, inr, arith}
use Rattle.std.specs.Prelude.{MatchResult}
use Rattle.std.proofs.lemmas.Bool.Decides.{leb_tells}
use Rattle.std.proofs.lemmas.List.Elements.{All-head, All-tail}
use Rattle.lift_building.specs.Plan.{Plan, IsBuilding, IsFirstDetour, IsDirect}
use Rattle.lift_building.specs.Gives.{NamesDetour}
use Rattle.lift_building.specs.Reading.{plan_of}
use Rattle.lift_building.specs.declared.fault.BuildingFault.{BuildingFault}
use Rattle.lift_building.specs.declared.fault.BuildingFault.TheVariants.{NotToml, Missing, WrongType, OutOfRange, TableShape, Detour, Memory}
use Rattle.lift_building.specs.lemmas.Again.{text_again}
use Rattle.lift_replay.specs.declared.lines.Verdict.{Verdict}
use Rattle.lift_replay.specs.Group.{first_group}
use Rattle.lift_replay.specs.Replaying.{IsPartsReport, IsTextReport, IsReport}
use Rattle.lift_replay.specs.Report.{building_text}
use Rattle.lift_replay.specs.Running.{TellsLines}
use Rattle.lift_replay.specs.Script.{SaysBuilding, RefusesBuilding}
use Rattle.lift_replay.specs.Source.{IsScript, LacksDivider, divider, ended}
use Rattle.lift_replay.proofs.Once.{lines_one}

-- the lines above the first divider, and those after it
parted : (above others script lines : List (List ℕ)) → All (λ line. line ≢ divider) above → All (λ line. line ≢ divider) others → above ++ divider ∷ script ≡ others ++ divider ∷ lines
    → (above ≡ others) × (script ≡ lines)
parted [] [] script lines a b e = (refl, cons_tail e)
  where
    cons_tail : divider ∷ script ≡ divider ∷ lines → script ≡ lines
    cons_tail e = cc
parted [] (y ∷ others) script lines a b e = absurd (All-head (λ line. line ≢ divider) y others b (cc))
parted (x ∷ above) [] script lines a b e = absurd (All-head (λ line. line ≢ divider) x above a (cc))
parted (x ∷ above) (y ∷ others) script lines a b e =
    let first : x ≡ y = cc in
    let rest = parted above others script lines (All-tail (λ line. line ≢ divider) x above a) (All-tail (λ line. line ≢ divider) y others b) (cc) in
    (ap (λ z. z ∷ above) first ∙ ap (λ l. y ∷ l) rest.0, rest.1)

scripts_one : (text building other : List ℕ) (script lines : List (List ℕ)) → IsScript text building script → IsScript text other lines → (building ≡ other) × (script ≡ lines)
scripts_one text building other script lines a b =
    let same = parted a.above b.above script lines a.first b.first (sym a.split ∙ b.split) in
    (a.ends ∙ ap ended same.0 ∙ sym b.ends, same.1)

not_lacking : (text building : List ℕ) (script : List (List ℕ)) → LacksDivider text → IsScript text building script → ⊥
not_lacking text building script lacks a = found a.above (subst (All (λ line. line ≢ divider)) a.split lacks)
  where
    found : (above : List (List ℕ)) → All (λ line. line ≢ divider) (above ++ divider ∷ script) → ⊥
    found [] all = All-head (λ line. line ≢ divider) divider script all refl
    found (x ∷ above) all = found above (All-tail (λ line. line ≢ divider) x (above ++ divider ∷ script) all)

-- the first detour of a plan
not_less : (plan : Plan) (i j k a b c : ℕ) → IsFirstDetour plan i j k → IsFirstDetour plan a b c → i < a → ⊥
not_less plan i j k a b c p q lt = let direct : IsDirect plan i j k = q.no_earlier_from i j k lt p.here.by p.here.to in let long = p.here.longer in omega (arith, direct, long)

not_by : (plan : Plan) (i j k b c : ℕ) → IsFirstDetour plan i j k → IsFirstDetour plan i b c → j < b → ⊥
not_by plan i j k b c p q lt = let direct : IsDirect plan i j k = q.here.no_earlier_by j k lt p.here.to in let long = p.here.longer in omega (arith, direct, long)

not_to : (plan : Plan) (i j k c : ℕ) → IsFirstDetour plan i j k → IsFirstDetour plan i j c → k < c → ⊥
not_to plan i j k c p q lt = let direct : IsDirect plan i j k = q.here.no_earlier_to k lt in let long = p.here.longer in omega (arith, direct, long)

equal : (m n : ℕ) → (m < n → ⊥) → (n < m → ⊥) → m ≡ n
equal m n least most = elim (leb_tells m n) [
  | inl below ↦ elim (leb_tells n m) [ inl above ↦ (let le = below.1 in let ge = above.1 in omega (arith, le, ge)) | inr past ↦ absurd (least past.1) ]
  | inr past ↦ absurd (most past.1)
]

detour_one : (plan : Plan) (i j k a b c : ℕ) → IsFirstDetour plan i j k → IsFirstDetour plan a b c → Detour i j k ≡ Detour a b c
detour_one plan i j k a b c p q =
    let from : a ≡ i = equal a i (not_less plan a b c i j k q p) (not_less plan i j k a b c p q) in
    let q1 : IsFirstDetour plan i b c = subst (λ x. IsFirstDetour plan x b c) from q in
    let by : b ≡ j = equal b j (not_by plan i b c j k q1 p) (not_by plan i j k b c p q1) in
    let q2 : IsFirstDetour plan i j c = subst (λ x. IsFirstDetour plan i x c) by q1 in
    let to : c ≡ k = equal c k (not_to plan i j c k q2 p) (not_to plan i j k c p q2) in
    ap (λ x. Detour i j x) (sym to) ∙ ap (λ x. Detour i x c) (sym by) ∙ ap (λ x. Detour x b c) (sym from)

names_one : (plan : Plan) (f h : BuildingFault) → NamesDetour plan f → NamesDetour plan h → f ≡ h
names_one plan (Detour i j k) (Detour a b c) p q = detour_one plan i j k a b c p q
names_one plan (Detour i j k) NotToml p q = absurd q
names_one plan (Detour i j k) (Missing x) p q = absurd q
names_one plan (Detour i j k) (WrongType x) p q = absurd q
names_one plan (Detour i j k) (OutOfRange x) p q = absurd q
names_one plan (Detour i j k) TableShape p q = absurd q
names_one plan (Detour i j k) (Memory m) p q = absurd q
names_one plan NotToml h p q = absurd p
names_one plan (Missing x) h p q = absurd p
names_one plan (WrongType x) h p q = absurd p
names_one plan (OutOfRange x) h p q = absurd p
names_one plan TableShape h p q = absurd p
names_one plan (Memory m) h p q = absurd p

fault_one : (read : Result Plan BuildingFault) (f h : BuildingFault) → MatchResult read (λ plan. NamesDetour plan f) (λ first. f ≡ first) → MatchResult read (λ plan. NamesDetour plan h) (λ first. h ≡ first) → f ≡ h
fault_one (Ok plan) f h p q = names_one plan f h p q
fault_one (Err first) f h p q = p ∙ sym q

no_detour : (plan : Plan) (f : BuildingFault) → IsBuilding plan → NamesDetour plan f → ⊥
no_detour plan (Detour i j k) is p = let direct = is.no_detour i j k p.from p.here.by p.here.to in let long = p.here.longer in omega (arith, direct, long)
no_detour plan NotToml is p = p
no_detour plan (Missing x) is p = p
no_detour plan (WrongType x) is p = p
no_detour plan (OutOfRange x) is p = p
no_detour plan TableShape is p = p
no_detour plan (Memory m) is p = p

not_both : (building report : List ℕ) (plan : Plan) → RefusesBuilding building report → SaysBuilding building plan → ⊥
not_both building report plan refuses says =
    no_detour plan refuses.0 says.1 (subst (λ r. MatchResult r (λ p. NamesDetour p refuses.0) (λ first. refuses.0 ≡ first)) (text_again building plan says.0 says.1) refuses.2)

plan_one : (building : List ℕ) (plan other : Plan) → SaysBuilding building plan → SaysBuilding building other → plan ≡ other
plan_one building plan other a b = ok_one plan other (sym (text_again building plan a.0 a.1) ∙ text_again building other b.0 b.1)
  where
    ok_one : (p q : Plan) → ◌≡◌ {A = Result Plan BuildingFault} (Ok p) (Ok q) → p ≡ q
    ok_one p q e = cc

parts_one : (building : List ℕ) (script : List (List ℕ)) (s t : List ℕ) (v w : Verdict) → IsPartsReport building script s v → IsPartsReport building script t w → (s ≡ t) × (v ≡ w)
parts_one building script s t v w (inl a) (inl b) = (a.0.3 ∙ ap building_text (fault_one (plan_of building) a.0.0 b.0.0 a.0.2 b.0.2) ∙ sym b.0.3, a.1 ∙ sym b.1)
parts_one building script s t v w (inl a) (inr b) = absurd (not_both building s b.0 a.0 b.1)
parts_one building script s t v w (inr a) (inl b) = absurd (not_both building t a.0 b.0 a.1)
parts_one building script s t v w (inr a) (inr b) =
    lines_one a.0 0 (first_group a.0) script s t v w a.2 (subst (λ p. TellsLines p 0 (first_group p) script t w) (plan_one building b.0 a.0 b.1 a.1) b.2)

text_one : (text s t : List ℕ) (v w : Verdict) → IsTextReport text s v → IsTextReport text t w → (s ≡ t) × (v ≡ w)
text_one text s t v w (inl a) (inl b) = (a.1 ∙ sym b.1, a.2 ∙ sym b.2)
text_one text s t v w (inl a) (inr b) = absurd (not_lacking text b.0 b.1 a.0 b.2)
text_one text s t v w (inr a) (inl b) = absurd (not_lacking text a.0 a.1 b.0 a.2)
text_one text s t v w (inr a) (inr b) =
    let same = scripts_one text b.0 a.0 b.1 a.1 b.2 a.2 in
    parts_one a.0 a.1 s t v w a.3 (subst (λ l. IsPartsReport a.0 l t w) same.1 (subst (λ x. IsPartsReport x b.1 t w) same.0 b.3))

pub report_one : (bytes s t : List ℕ) (v w : Verdict) → IsReport bytes s v → IsReport bytes t w → (s ≡ t) × (v ≡ w)
report_one bytes s t v w (inl a) (inl b) = (a.1 ∙ sym b.1, a.2 ∙ sym b.2)
report_one bytes s t v w (inl a) (inr (inl b)) = absurd (let long = a.0 in let short = b.0 in omega (arith, long, short))
report_one bytes s t v w (inl a) (inr (inr b)) = absurd (let long = a.0 in let short = b.0 in omega (arith, long, short))
report_one bytes s t v w (inr (inl a)) (inl b) = absurd (let long = b.0 in let short = a.0 in omega (arith, long, short))
report_one bytes s t v w (inr (inr a)) (inl b) = absurd (let long = b.0 in let short = a.0 in omega (arith, long, short))
report_one bytes s t v w (inr (inl a)) (inr (inl b)) = (a.2 ∙ sym b.2, a.3 ∙ sym b.3)
report_one bytes s t v w (inr (inl a)) (inr (inr b)) = absurd (a.1 b.1)
report_one bytes s t v w (inr (inr a)) (inr (inl b)) = absurd (b.1 a.1)
report_one bytes s t v w (inr (inr a)) (inr (inr b)) = text_one bytes s t v w a.2 b.2
