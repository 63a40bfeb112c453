-- Reopenings, openings, and what terminals do between calls.
use Rattle.lift_clerk.specs.TakenAndAnswered.{answer_words, ask_of}
use Rattle.std.proofs.Common.{ℕ, suc, zero, ◌≡◌, ◌-◌, ◌⊎◌, inl, inr, Bool, true, false, List, []}
use Rattle.std.proofs.Common.{◌∷◌, ◌++◌, map, take, drop, Some, refl, sym, ap, subst, ◌∙◌, arith}
use Rattle.std.specs.Prelude.{IsTrue, filter, option_and_then, count_by}
use Rattle.std.proofs.lemmas.List.{append-nil}
use Rattle.atomic_table.specs.Seated.{TableId}
use Rattle.lift_base.specs.declared.history.Entry.{Entry}
use Rattle.lift_register.specs.Register.{RegisterState, register_of}
use Rattle.lift_desk.specs.declared.view.ClerkView.{ClerkView}
use Rattle.lift_desk.specs.Rule.{no_answers}
use Rattle.lift_desk.specs.Seats.{ClerkPlace, view_at, clerk_of}
use Rattle.lift_desk.specs.Spelled.{ask_words}
use Rattle.lift_decider.specs.Decider.{starting}
use Rattle.lift_policy.specs.declared.command.Command.{Command}
use Rattle.lift_world.specs.declared.event.Answer.{Answer}
use Rattle.lift_world.specs.declared.event.Event.TheVariants.{Fault, Cut, Reopen}
use Rattle.lift_world.specs.declared.event.Kept.{Kept}
use Rattle.lift_world.specs.declared.event.Kept.TheVariants.{Safe, WithBatch}
use Rattle.lift_world.specs.declared.event.Power.TheVariants.{Broken}
use Rattle.lift_world.specs.Decided.{when}
use Rattle.lift_world.specs.World.{World, SealedBatch, start, unplaced, safe_list, batch_in_flight}
use Rattle.lift_world.specs.World.{outcome, may_keep, asks, is_answer_to}
use Rattle.lift_world.specs.Next.{next, goes, reopened, cutting}
use Rattle.lift_world.specs.Turns.{IsAtRest, IsBrokenAtRest}
use Rattle.lift_world.specs.Headline.{IsOfBuilding}
use Rattle.lift_world.specs.lemmas.Entries.{over_nothing}
use Rattle.lift_world.specs.lemmas.Goes.{one}
use Rattle.lift_clerk.specs.Clerk.{ClerkState}
use Rattle.lift_clerk.specs.Tied.{on_way, ShowsBoth, RunsBroken, IsReached}
use Rattle.lift_clerk.specs.Machine.{IsMachineOf, LeadsToClerk}
use Rattle.lift_clerk.specs.Machine.{WaitsNowhere, ClerkReopens, Stays, IsNewClerk}
use Rattle.lift_clerk.specs.Machine.{kept_after}
use Rattle.lift_clerk.specs.Steps.{ClerkRests}
use Rattle.lift_clerk.specs.Laws.{Laws}
use Rattle.lift_keeper.specs.lemmas.Keepers.{nothing_after}
use Rattle.lift_clerk.specs.lemmas.Tied.{reaches, none_queued, nothing_queued, same_words, same_tied, rests, rests_broken, safe_all, tied_at_rest, tied_broken}
use Rattle.lift_clerk.specs.lemmas.Turned.{register_with, state_is}

-- of no batch nothing is kept
pub nothing_kept : {A B : Type 0} (safe batch : List Entry) (o : A ⊎ B) → batch ≡ []
    → kept_after safe batch o ≡ safe
nothing_kept safe batch (inl without) e = refl
nothing_kept safe batch (inr whole) e = ap (λ (xs : List Entry). safe ++ xs) e ∙ append-nil safe

-- an opening leaves the world of its register
opened : {D P : Type 0} → Laws → (end : World) (clerk : ClerkState D P) → IsAtRest end
    → end.positions ≡ unplaced → register_of end.base end.accepted ≡ clerk.keeper.writer.register
    → clerk.keeper.state ≡ starting clerk.keeper.writer.register → clerk.keeper.writer.doubt ≡ []
    → end.building ≡ clerk.keeper.writer.plan → IsReached end → clerk.keeper.writer.is_broken ≡ false
    → ((t : ℕ) → ShowsBoth end t (view_at clerk.seat t).taken (view_at clerk.seat t)) → IsMachineOf end clerk
opened laws end clerk k p r s d building reached whole words =
    tied_at_rest laws end (view_at clerk.seat) clerk.keeper.state clerk.keeper.writer building reached
    (ap (register_of end.base) (safe_all end k) ∙ r) words k whole
    (state_is end k (starting clerk.keeper.writer.register) r p refl ∙ sym s) d

-- words at seats that stay
same_seat : (w end : World) (t : ℕ) (old new : List ClerkPlace) → new ≡ old → end.asked ≡ w.asked
    → end.answered ≡ w.answered → end.queue ≡ w.queue → ShowsBoth w t (view_at old t).taken (view_at old t)
    → ShowsBoth end t (view_at new t).taken (view_at new t)
same_seat w end t old new e a s q k =
    let taken = ap (λ (x : List ClerkPlace). (view_at x t).taken) e in
    same_words w end t (view_at old t).taken (view_at new t).taken (view_at old t) (view_at new t) a s q taken taken
    (ap (λ (x : List ClerkPlace). (view_at x t).answered) e) k

module _ {D P : Type 0} (laws : Laws) (w : World) (before after : ClerkState D P)
    (r : ClerkReopens before after) (m : IsMachineOf w before) where
  abbrev OneOf : Type 0
  OneOf = (after.keeper.writer.register ≡ before.keeper.writer.register)
      ⊎ (after.keeper.writer.register
      ≡ register_of before.keeper.writer.register before.keeper.writer.doubt)

  abbrev safe : OneOf → List Entry
  safe o = kept_after (safe_list w) before.keeper.writer.doubt o

  abbrev Keeps : OneOf → Type 0
  Keeps o = (kept : Kept) × IsTrue (may_keep w kept)
      × (after.keeper.writer.register ≡ register_of w.base (outcome w kept))
      × LeadsToClerk w (Reopen kept ∷ []) [] (safe o) after

  leads_to : (o : OneOf) (kept : Kept) (end : World) → next w (Reopen kept) ≡ Some end
      → IsAtRest end → end.building ≡ w.building → end.base ≡ w.base → end.asked ≡ w.asked → end.heard ≡ w.heard
      → end.answered ≡ w.answered → end.given ≡ w.given
      → end.positions ≡ unplaced → register_of end.base end.accepted ≡ after.keeper.writer.register
      → end.accepted ≡ safe o → LeadsToClerk w (Reopen kept ∷ []) [] (safe o) after
  leads_to o kept end e k b base a h s g p reg same_safe = record {
    before = [];
    of_terminals = tt;
    end = end;
    possible = one (Reopen kept) [] w end e;
    same_base = base;
    given_is = g ∙ sym (append-nil w.given);
    safe_is = safe_all end k ∙ same_safe;
    waits = λ none t. ap (λ (xs : List Answer).
        drop (count_by (is_answer_to t) xs) (filter (asks t) end.asked)) s
        ∙ ap (λ (xs : List Command).
        drop (count_by (is_answer_to t) w.answered) (filter (asks t) xs)) a ∙ none t;
    alone = λ none. (refl, a, h);
    shows = opened laws end after k p reg r.state r.no_doubt (b ∙ m.building ∙ sym r.same_plan)
        (reaches laws w m.reached (Reopen kept ∷ []) end (one (Reopen kept) [] w end e) b base) r.is_whole
        (λ t. same_seat w end t before.seat after.seat r.same_seat a s (k.nothing_queued ∙ sym (nothing_queued m)) (m.words t));
  }

  safe_again : before.keeper.writer.register ≡ register_of w.base (safe_list w)
      → before.keeper.writer.doubt ≡ [] → OneOf
      → after.keeper.writer.register ≡ register_of w.base (safe_list w)
  safe_again s d (inl e) = e ∙ s
  safe_again s d (inr e) =
      e ∙ ap (register_of before.keeper.writer.register) d ∙ ap (λ (x : RegisterState).
      register_of x []) s ∙ nothing_after w.base (safe_list w)

  while_whole : before.keeper.writer.is_broken ≡ false → Keeps r.one_of
  while_whole e =
      let wh = m.whole e in
      let rest : IsAtRest w = rests m laws e in
      let reg : after.keeper.writer.register ≡ register_of w.base (safe_list w) =
      safe_again (sym m.safe) wh.no_doubt r.one_of in
      let end : World = record w { positions = unplaced } in (
        Safe,
        refl,
        reg,
        leads_to r.one_of Safe end ((laws.running_reopenings w).opens rest)
            ((laws.running_reopenings w).rests rest) refl refl refl refl refl refl refl
            (ap (register_of w.base) (sym (safe_all w rest)) ∙ sym reg)
            (sym (safe_all w rest) ∙ sym
            (nothing_kept (safe_list w) before.keeper.writer.doubt r.one_of wh.no_doubt)),
      )

  keeping : (o : OneOf) (kept : Kept) → IsBrokenAtRest w → IsTrue (may_keep w kept)
      → after.keeper.writer.register ≡ register_of w.base (outcome w kept) → outcome w kept ≡ safe o
      → Keeps o
  keeping o kept rest may reg same_safe =
      let t = laws.reopenings w kept rest may in (
        kept,
        may,
        reg,
        leads_to o kept (reopened w kept) t.0 t.1 refl refl refl refl refl refl refl
            (sym reg) same_safe,
      )

  by_doubt : (doubt : List Entry) → before.keeper.writer.doubt ≡ doubt
      → (br : RunsBroken w before.keeper.writer) → IsBrokenAtRest w
      → (e : after.keeper.writer.register
      ≡ register_of before.keeper.writer.register before.keeper.writer.doubt) → Keeps (inr e)
  by_doubt [] d br rest e =
      let o : OneOf = inr e in
      keeping o Safe rest refl (safe_again (sym m.safe) d o)
      (sym (nothing_kept (safe_list w) before.keeper.writer.doubt o d))
  by_doubt (x ∷ xs) d br rest e =
      keeping (inr e) WithBatch rest
      (br.may_be_kept (λ none. let wrong : x ∷ xs ≡ [] = sym d ∙ none in cc))
      (e ∙ sym (register_with laws.registers w before.keeper.writer.doubt
      before.keeper.writer.register m.safe)
      ∙ ap (λ (ys : List Entry). register_of w.base (safe_list w ++ ys)) (sym br.doubt))
      (ap (λ (ys : List Entry). safe_list w ++ ys) br.doubt)

  by_register : RunsBroken w before.keeper.writer → IsBrokenAtRest w → (o : OneOf) → Keeps o
  by_register br rest (inl e) = keeping (inl e) Safe rest refl (e ∙ sym m.safe) refl
  by_register br rest (inr e) = by_doubt before.keeper.writer.doubt refl br rest e

  by_state : (b : Bool) → before.keeper.writer.is_broken ≡ b → Keeps r.one_of
  by_state false e = while_whole e
  by_state true e = by_register (m.broken e) (rests_broken m laws e) r.one_of

-- A reopening is one of the machine, which keeps what the register tells that it kept.
pub reopenings_are_reopenings : {D P : Type 0} → Laws → (w : World) (before after : ClerkState D P)
    (r : ClerkReopens before after) → IsMachineOf w before
    → (kept : Kept) × IsTrue (may_keep w kept)
    × (after.keeper.writer.register ≡ register_of w.base (outcome w kept))
    × LeadsToClerk w (Reopen kept ∷ []) []
    (kept_after (safe_list w) before.keeper.writer.doubt r.one_of)
    after
reopenings_are_reopenings laws w before after r m =
    by_state laws w before after r m before.keeper.writer.is_broken refl

pub rests_are_no_events : {D P : Type 0} → (w : World) (before after : ClerkState D P)
    → ClerkRests before after → after.keeper.writer.is_broken ≡ before.keeper.writer.is_broken
    → IsMachineOf w before → IsMachineOf w after
rests_are_no_events w before after s same m = same_tied (record {
  ahead_is = λ t. (s.words t).0;
  looked_is = λ t. (s.words t).0;
  answered_is = λ t. (s.words t).1;
  state_is = λ e q. s.state e;
  plan = s.plan;
  register = s.register;
  doubt = s.doubt;
  broken = same;
}) m

abbrev pub rests_of : {D P : Type 0} → (before after : ClerkState D P) → Stays before after
    → (after.keeper.writer.is_broken ≡ true)
    ⊎ (after.keeper.writer.is_broken ≡ before.keeper.writer.is_broken)
    → ClerkRests before after
rests_of before after s broken = record {
  desk = s.desk;
  words = λ t. (
    ap (λ (seat : List ClerkPlace). (view_at seat t).taken) s.same_seat,
    ap (λ (seat : List ClerkPlace). (view_at seat t).answered) s.same_seat,
  );
  state = λ whole. s.same_state;
  register = s.same_register;
  doubt = s.same_doubt;
  plan = s.same_plan;
  broken = broken;
}

pub faults_are_events : {D P : Type 0} → Laws → (w : World) (before after : ClerkState D P)
    → ClerkRests before after → before.keeper.writer.is_broken ≡ false
    → after.keeper.writer.is_broken ≡ true → IsMachineOf w before
    → LeadsToClerk w (Fault ∷ []) [] (safe_list w) after
faults_are_events laws w before after s was is m =
    let wh = m.whole was in
    let rest : IsAtRest w = rests m laws was in
    let end : World = record w { power = Broken } in
    let fault = (laws.failed_reopenings w).fails rest in
    let upto : w.flight.upto ≡ 0 = ap (λ (b : SealedBatch). b.upto) rest.nothing_flies in
    let count : w.flight.upto - w.safe ≡ 0 = omega arith in
    let nothing : batch_in_flight end
    ≡ [] = ap (λ (n : ℕ). take n (drop w.safe w.accepted)) count in
    record {
      before = [];
      of_terminals = tt;
      end = end;
      possible = one Fault [] w end fault;
      same_base = refl;
      given_is = sym (append-nil w.given);
      safe_is = refl;
      waits = λ none. none;
      alone = λ none. (refl, refl, refl);
      shows = tied_broken laws end (view_at after.seat) after.keeper.state after.keeper.writer (m.building ∙ sym s.plan)
          (reaches laws w m.reached (Fault ∷ []) end (one Fault [] w end fault) refl refl) (m.safe ∙ sym s.register)
          (λ t. same_words w end t (view_at before.seat t).taken (view_at after.seat t).taken (view_at before.seat t) (view_at after.seat t)
          refl refl refl (s.words t).0 (s.words t).0 (s.words t).1 (m.words t))
          ((laws.failed_reopenings w).rests rest) is nothing (s.doubt ∙ wh.no_doubt);
    }

-- a new desk
pub new_view : (desk : List TableId) (t : ℕ) → view_at (clerk_of desk) t ≡ no_answers
new_view [] t = refl
new_view (x ∷ desk) zero = refl
new_view (x ∷ desk) (suc t) = new_view desk t

new_words : {D P : Type 0} (w : World) (clerk : ClerkState D P) (t : ℕ)
    → clerk.seat ≡ clerk_of clerk.desk → w.asked ≡ [] → w.answered ≡ [] → w.queue ≡ []
    → ShowsBoth w t (view_at clerk.seat t).taken (view_at clerk.seat t)
new_words w clerk t e a b q =
    let way : on_way w t ≡ [] = none_queued w t q in
    subst (λ (v : ClerkView). ShowsBoth w t v.taken v)
    (sym (ap (λ (s : List ClerkPlace). view_at s t) e ∙ new_view clerk.desk t)) (record {
      first = [];
      waiting = [];
      asked = ap (filter (asks t)) a ∙ ap (λ (cs : List Command). cs ++ []) (sym way);
      taken = ap (λ (cs : List Command). ask_words 1 (map ask_of cs)) (sym way);
      looked = refl;
      answered = ap (λ (xs : List Answer). answer_words 1 (filter (is_answer_to t) xs)) (sym b);
      even = ap (count_by (is_answer_to t)) (sym b);
    })

-- Over an empty journal a clerk begins in the machine's start, where no ask waits.
pub begins_at_start : {D P : Type 0} → Laws → (clerk : ClerkState D P) → IsNewClerk clerk
    → IsOfBuilding clerk.keeper.writer.plan clerk.keeper.writer.register
    → IsMachineOf (start clerk.keeper.writer.plan clerk.keeper.writer.register) clerk
    × WaitsNowhere (start clerk.keeper.writer.plan clerk.keeper.writer.register)
begins_at_start laws clerk k of = (
  opened laws (start clerk.keeper.writer.plan clerk.keeper.writer.register) clerk
      (laws.starts clerk.keeper.writer.plan clerk.keeper.writer.register) refl
      (over_nothing clerk.keeper.writer.plan clerk.keeper.writer.register of) k.state k.no_doubt refl ([], refl) k.is_whole
      (λ t. new_words (start clerk.keeper.writer.plan clerk.keeper.writer.register) clerk t k.seat refl refl refl),
  λ t. refl,
)

same_outcome : (w : World) (kept : Kept) → outcome (cutting w kept) kept ≡ outcome w kept
same_outcome w Safe = refl
same_outcome w WithBatch = refl

-- After a crash it begins in the world that the machine's power cut and recovery leave.
pub begins_after_cut : {D P : Type 0} → Laws → (w : World) (clerk : ClerkState D P) (kept : Kept)
    → IsReached w → w.building ≡ clerk.keeper.writer.plan → IsTrue (may_keep w kept)
    → IsNewClerk clerk → clerk.keeper.writer.register ≡ register_of w.base (outcome w kept)
    → (after : World) × (goes (Cut kept ∷ Reopen kept ∷ []) w ≡ Some after)
    × (after.given ≡ w.given) × (after.base ≡ w.base) × IsMachineOf after clerk
    × (safe_list after ≡ outcome w kept) × WaitsNowhere after
begins_after_cut laws w clerk kept reached building may k register =
    let off : World = cutting w kept in
    let cut : next w (Cut kept) ≡ Some off = ap (λ (b : Bool). when b off) may in
    let after : World = reopened off kept in
    let possible : goes (Cut kept ∷ Reopen kept ∷ []) w ≡ Some after =
    ap (option_and_then (goes (Reopen kept ∷ []))) cut ∙ one (Reopen kept) [] off after
    ((laws.after_cut w).opens kept off cut) in (
      after,
      possible,
      refl,
      refl,
      opened laws after clerk (laws.cuts w kept off cut) refl
          (ap (register_of w.base) (same_outcome w kept) ∙ sym register) k.state k.no_doubt building
          (reaches laws w reached (Cut kept ∷ Reopen kept ∷ []) after possible refl refl) k.is_whole
          (λ t. new_words after clerk t k.seat refl refl refl),
      safe_all after (laws.cuts w kept off cut) ∙ same_outcome w kept,
      λ t. refl,
    )
