-- What words do to the device, and what it makes of a script's group.
use Rattle.std.proofs.Common.{◌≡◌, ◌⊎◌, ◌↔◌, ℕ, ◌+◌, ◌<◌, List, [], ◌∷◌, drop, Option, Some, None, refl, sym, ap, ◌∙◌, subst, inl, inr, arith}
use Rattle.std.specs.Prelude.{codes}
use Rattle.std.specs.Fmt.{decimal}
use Rattle.lift_base.specs.Text.{AreWords}
use Rattle.lift_building.specs.Plan.{Plan}
use Rattle.lift_desk.specs.Seats.{TerminalSeat}
use Rattle.lift_disk.specs.declared.outcome.Outcome.{Outcome}
use Rattle.lift_disk.specs.declared.outcome.Outcome.TheVariants.{Keep, Lose, Fill}
use Rattle.lift_register.specs.Balanced.{open_count}
use Rattle.lift_replay.specs.declared.device_action.DeviceAction.{DeviceAction}
use Rattle.lift_replay.specs.declared.device_action.DeviceAction.TheVariants.{Fuse, Cut}
use Rattle.lift_replay.specs.DeviceAction.{AskToDo, SayOutcome, IsArmed, DoesToDevice, cut_by, action_text, after_action}
use Rattle.lift_replay.specs.Group.{ScriptGroup, FailedBatch, left_by, recovered}
use Rattle.lift_replay.specs.Report.{cut_text}
use Rattle.lift_replay.specs.Shows.{AreInStep, Stands, IsKeeperOf, Shows}
use Rattle.lift_replay.specs.Told.{ScriptClerk, device_of}
use Rattle.lift_replay.proofs.Found.{IsDecided, Within, within, either, worded}
use Rattle.lift_replay.proofs.Heads.{IsOneOf, word_at, byte_at, decimal_one}
use Rattle.lift_replay.proofs.Recovered.{left_unchanged, may_unchanged}

-- the words that they begin with
abbrev pub action_words : List (List ℕ)
action_words = codes "fuse" ∷ codes "cut" ∷ []

pub action_head : (words : List (List ℕ)) (action : DeviceAction) → AskToDo words action → IsOneOf (word_at 0 words) action_words
action_head words (Fuse calls) p = inl (ap (word_at 0) p.1)
action_head words (Cut outcome) p = inr (inl (ap (word_at 0) p.2))

outcome_one : (words : List (List ℕ)) (a b : Outcome) → SayOutcome words a → SayOutcome words b → a ≡ b
outcome_one words Keep Keep p q = refl
outcome_one words Keep Lose p q = absurd (let no : ◌≡◌ {A = ℕ} 107 108 = ap (byte_at 0) (sym p ∙ q) in omega (arith, no))
outcome_one words Keep (Fill n) p q = absurd (let no : ◌≡◌ {A = ℕ} 107 102 = ap (byte_at 0) (sym p ∙ q.1) in omega (arith, no))
outcome_one words Lose Keep p q = absurd (let no : ◌≡◌ {A = ℕ} 108 107 = ap (byte_at 0) (sym p ∙ q) in omega (arith, no))
outcome_one words Lose Lose p q = refl
outcome_one words Lose (Fill n) p q = absurd (let no : ◌≡◌ {A = ℕ} 108 102 = ap (byte_at 0) (sym p ∙ q.1) in omega (arith, no))
outcome_one words (Fill m) Keep p q = absurd (let no : ◌≡◌ {A = ℕ} 102 107 = ap (byte_at 0) (sym p.1 ∙ q) in omega (arith, no))
outcome_one words (Fill m) Lose p q = absurd (let no : ◌≡◌ {A = ℕ} 102 108 = ap (byte_at 0) (sym p.1 ∙ q) in omega (arith, no))
outcome_one words (Fill m) (Fill n) p q = ap Fill (decimal_one m n (let b = p.0 in omega (arith, b)) (let b = q.0 in omega (arith, b)) (ap (word_at 1) (sym p.1 ∙ q.1)))

-- words do one thing at most
pub action_one : (words : List (List ℕ)) (a b : DeviceAction) → AskToDo words a → AskToDo words b → a ≡ b
action_one words (Fuse calls) (Fuse calls2) p q =
    ap (λ x. Fuse x) (decimal_one calls calls2 (let b = p.0 in omega (arith, b)) (let b = q.0 in omega (arith, b)) (ap (word_at 1) (sym p.1 ∙ q.1)))
action_one words (Fuse calls) (Cut outcome2) p q = absurd (let e : ◌≡◌ {A = ℕ} 102 99 = ap (byte_at 0) (sym p.1 ∙ q.2) in omega (arith, e))
action_one words (Cut outcome) (Fuse calls2) p q = absurd (let e : ◌≡◌ {A = ℕ} 99 102 = ap (byte_at 0) (sym p.2 ∙ q.1) in omega (arith, e))
action_one words (Cut outcome) (Cut outcome2) p q =
    let same : q.0 ≡ p.0 = ap (drop 1) (sym q.2 ∙ p.2) in
    ap (λ x. Cut x) (outcome_one p.0 outcome outcome2 p.1 (subst (λ ws. SayOutcome ws outcome2) same q.1))

-- the ways in which a line may do something to the device
module _ (line : List ℕ) where
  abbrev Fused : Type 0
  Fused = Within 1000001 (λ calls. AreWords line (codes "fuse" ∷ decimal calls ∷ []))

  abbrev Kept : Type 0
  Kept = AreWords line (codes "cut" ∷ codes "keep" ∷ [])

  abbrev Lost : Type 0
  Lost = AreWords line (codes "cut" ∷ codes "lose" ∷ [])

  abbrev Filled : Type 0
  Filled = Within 256 (λ byte. AreWords line (codes "cut" ∷ codes "fill" ∷ decimal byte ∷ []))

  abbrev Ways : Type 0
  Ways = Fused ⊎ (Kept ⊎ (Lost ⊎ Filled))

  fused : IsDecided Fused
  fused = within _ (λ calls. worded line (codes "fuse") (decimal calls ∷ [])) 1000001

  filled : IsDecided Filled
  filled = within _ (λ byte. worded line (codes "cut") (codes "fill" ∷ decimal byte ∷ [])) 256

  ways : IsDecided Ways
  ways = either _ _ fused (either _ _ (worded line (codes "cut") (codes "keep" ∷ [])) (either _ _ (worded line (codes "cut") (codes "lose" ∷ [])) filled))

  abbrev pub SpellsThis : DeviceAction → Type 0
  SpellsThis action = (words : List (List ℕ)) × AreWords line words × AskToDo words action

  abbrev pub Does : Type 0
  Does = (action : DeviceAction) × SpellsThis action

  does_of : Ways → Does
  does_of (inl (calls, c, are)) = (Fuse calls, (_, are, (omega (arith, c), refl)))
  does_of (inr (inl are)) = (Cut Keep, (_, are, (codes "keep" ∷ [], refl, refl)))
  does_of (inr (inr (inl are))) = (Cut Lose, (_, are, (codes "lose" ∷ [], refl, refl)))
  does_of (inr (inr (inr (byte, b, are)))) = (Cut (Fill byte), (_, are, (codes "fill" ∷ decimal byte ∷ [], (b, refl), refl)))

  as_words : (words others : List (List ℕ)) → words ≡ others → AreWords line words → AreWords line others
  as_words words others is are = subst (AreWords line) is are

  way_of : (action : DeviceAction) → SpellsThis action → Ways
  way_of (Fuse calls) (words, are, p) = inl (calls, (let range = p.0 in omega (arith, range)), as_words words _ p.1 are)
  way_of (Cut Keep) (words, are, (last, say, p)) = inr (inl (as_words words _ (p ∙ ap (λ l. codes "cut" ∷ l) say) are))
  way_of (Cut Lose) (words, are, (last, say, p)) = inr (inr (inl (as_words words _ (p ∙ ap (λ l. codes "cut" ∷ l) say) are)))
  way_of (Cut (Fill byte)) (words, are, (last, say, p)) = inr (inr (inr (byte, say.0, as_words words _ (p ∙ ap (λ l. codes "cut" ∷ l) say.1) are)))

  pub action_decided : IsDecided Does
  action_decided = elim ways [ inl way ↦ inl (does_of way) | inr none ↦ inr (λ does. none (way_of does.0 does.1)) ]

-- a fuse
arms : (plan : Plan) (g : ScriptGroup) (calls : ℕ) (old new : ScriptClerk) (s : Option FailedBatch) → IsArmed calls old new → Stands s plan g old.keeper → g.failed ≡ s → Stands s plan (record g { passing = Some calls }) new.keeper
arms plan g calls old new None armed stands is = (
  ap (λ (c : ScriptClerk). c.keeper.writer.is_broken) armed.rest ∙ stands.0,
  ap (λ (c : ScriptClerk). c.keeper.state) armed.rest ∙ stands.1,
  ap (λ (c : ScriptClerk). c.keeper.writer.used) armed.rest ∙ stands.2,
  ap (λ (c : ScriptClerk). c.keeper.writer.is_in_second_half) armed.rest ∙ stands.3,
  record {
    armed = λ call past. subst (λ n. (device_of new).fails_at call ↔ n + calls < call) (sym armed.unchanged.calls) (armed.armed call past);
    short = armed.unchanged.short ∙ stands.4.short;
  },
)
arms plan g calls old new (Some s) armed stands is = (
  ap (λ (c : ScriptClerk). c.keeper.writer.is_broken) armed.rest ∙ stands.0,
  λ outcome image left may.
      stands.1 outcome image (left_unchanged outcome (device_of old) (device_of new) image armed.unchanged left) (may_unchanged (device_of old) (device_of new) image armed.unchanged may),
)

-- what comes of it: the group that is computed, or a power cut of the group as it is
abbrev pub Comes : Plan → ScriptGroup → ScriptClerk → List TerminalSeat → DeviceAction → Option Outcome → Type 0
Comes plan g new after action None = (action_text g action ≡ []) × Shows plan (after_action plan g action) new after
Comes plan g new after action (Some outcome) =
    (action_text g action ≡ cut_text (open_count (left_by outcome g).register))
    × (after_action plan g action ≡ recovered plan (left_by outcome g)) × Shows plan g new after

pub action_comes : (plan : Plan) (g : ScriptGroup) (old new : ScriptClerk) (seats after : List TerminalSeat) (action : DeviceAction) → Shows plan g old seats → DoesToDevice action old new → after ≡ seats
    → Comes plan g new after action (cut_by action)
action_comes plan g old new seats after (Fuse calls) shows armed same =
    let kept : IsKeeperOf plan (record g { passing = Some calls }) new.keeper = record {
      same_plan = ap (λ (c : ScriptClerk). c.keeper.writer.plan) armed.rest ∙ shows.keeper.same_plan;
      half_is = ap (λ (c : ScriptClerk). c.keeper.writer.half) armed.rest ∙ shows.keeper.half_is;
      register = ap (λ (c : ScriptClerk). c.keeper.writer.register) armed.rest ∙ shows.keeper.register;
      stands = arms plan g calls old new g.failed armed shows.keeper.stands refl;
    } in (
      refl,
      record {
        keeper = kept;
        terminals = subst (λ l. AreInStep g.terminals after l) (sym (ap (λ (c : ScriptClerk). c.seat) armed.rest)) (subst (λ l. AreInStep g.terminals l old.seat) (sym same) shows.terminals);
      },
    )
action_comes plan g old new seats after (Cut outcome) shows rests same =
    (refl, refl, subst (λ c. Shows plan g c after) (sym rests) (subst (Shows plan g old) (sym same) shows))
