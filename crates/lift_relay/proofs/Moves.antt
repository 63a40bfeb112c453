-- Each move keeps the order of the line.
use Rattle.std.proofs.Common.{◌≡◌, ◌≢◌, ℕ, zero, suc, true, false, true≢false, List, [], ◌∷◌, ◌++◌, length, set, sym, refl, ap, ◌∙◌, subst, ⊎_elim, inl, inr, append_assoc, append-nil, ◌<◌, arith, length-append}
use mathlib.Core.Option.{some, some-ne-none, some-injective}
use lib.ListN.{get_elem?}
use Rattle.crossbeam_queue.specs.Fifo.{Pushes, Pops, Forks, Merges, Learns}
use Rattle.crossbeam_queue.proofs.Lists.{at_set, at_snoc}
use Rattle.atomic_table.specs.Seated.{TableId}
use Rattle.lift_base.specs.declared.limits.TheConstants.{MOST_BATCHES}
use Rattle.lift_building.specs.Plan.{Plan}
use Rattle.lift_policy.specs.Step.{State}
use Rattle.lift_parts.specs.Batch.{BatchState, next_turns}
use Rattle.lift_relay.specs.declared.line.EndView.{EndView}
use Rattle.lift_parts.specs.Line.{most_batches, Begins, IsNextBatch}
use Rattle.lift_relay.specs.Rule.{opening, opening_view, begun_with, sending, receiving, with_both_passes, told_both, spent_pass, LineLists, EndFits, IsLineInOrder, IsLineSound, Opened, Sent, Received, SentAllBut, ReceivedBefore, HoldsUnreceived}
use Rattle.lift_parts.specs.Line.{BatchesGoOn}

off : {A : Type 0} → false ≡ true → A
off e = absurd (true≢false (sym e))

goes_on_more : (building : Plan) (desk : List TableId) (first mid : State) (turns used : List ℕ) (batches : List BatchState) (batch : BatchState) → BatchesGoOn building desk first turns batches mid used
    → IsNextBatch building desk mid used batch → BatchesGoOn building desk first turns (batches ++ batch ∷ []) batch.after (next_turns batch)
goes_on_more building desk first mid turns used [] batch so next = (subst (λ (p : State × List ℕ). IsNextBatch building desk p.0 p.1 batch) (λ i. (sym so.0 i, sym so.1 i)) next, (refl, refl))
goes_on_more building desk first mid turns used (b ∷ batches) batch so next = (so.0, goes_on_more building desk b.after mid (next_turns b) used batches batch so.1 next)

fit_set : (l : LineLists) (views : List EndView) (id : ℕ) (w : EndView) → EndFits l id w
    → ((j : ℕ) (u : EndView) → j ≢ id → get_elem? views j ≡ some u → EndFits l j u) → (j : ℕ) (u : EndView) → get_elem? (set views id w) j ≡ some u → EndFits l j u
fit_set l views id w mine others j u e =
    ⊎_elim
    (λ (x : (j ≡ id) × (w ≡ u)). subst (λ (y : ℕ × EndView). EndFits l y.0 y.1) (λ i. (sym x.0 i, x.1 i)) mine)
    (λ (x : (j ≢ id) × (get_elem? views j ≡ some u)). others j u x.0 x.1)
    (at_set views id j w u e)

at_end : (l : List EndView) (a b : EndView) (j : ℕ) → get_elem? l j ≢ some b → get_elem? (l ++ a ∷ []) j ≡ some b → j ≡ length l
at_end [] a b zero n e = refl
at_end [] a b (suc j) n e = absurd (some-ne-none b (sym e))
at_end (x ∷ xs) a b zero n e = absurd (n e)
at_end (x ∷ xs) a b (suc j) n e = ap suc (at_end xs a b j n e)

-- it is the pass of the line, which has pushed what is there
alone_at : (items : List BatchState) (views : List EndView) (id : ℕ) (v : EndView) → views ≡ opening items ∷ [] → get_elem? views id ≡ some v → (id ≡ 0) × (v ≡ opening items)
alone_at items views id v is at = here id (subst (λ l. get_elem? l id ≡ some v) is at)
  where
    here : (n : ℕ) → get_elem? (opening items ∷ []) n ≡ some v → (n ≡ 0) × (v ≡ opening items)
    here zero e = (refl, sym (some-injective (opening items) v e))
    here (suc n) e = absurd (some-ne-none v (sym e))

-- where a pass tells that the line has begun, it is in order
ordered : (items : List BatchState) (views : List EndView) (id : ℕ) (v : EndView) → v.begun ≡ true → IsLineSound items views → get_elem? views id ≡ some v → IsLineInOrder items views
ordered items views id v begun (inl is) at = off (sym (ap (λ (u : EndView). u.begun) (alone_at items views id v is at).1) ∙ begun)
ordered items views id v begun (inr o) at = o

set_only : (views : List EndView) (u w : EndView) (id : ℕ) → id ≡ 0 → views ≡ u ∷ [] → set views id w ≡ w ∷ []
set_only views u w id first is = ap (λ (p : ℕ × List EndView). set p.1 p.0 w) (λ i. (first i, is i))

pub names : (n id : ℕ) (v : EndView) (batch : BatchState) → v ≡ opening_view → Pushes IsLineSound n id v batch (Opened v batch)
names n id v batch first items views few h at =
    ⊎_elim
    (λ is.
    let a = alone_at items views id v is at in
    let none : items ≡ [] = sym (ap (λ (u : EndView). u.sent) a.1) ∙ ap (λ (u : EndView). u.sent) first in (
      opening (batch ∷ []),
      inl (set_only views (opening items) (opening (batch ∷ [])) id a.0 is ∙ ap (λ l. opening (l ++ batch ∷ []) ∷ []) (sym none)),
      inl (ap (λ (u : EndView). u.sent) first, refl),
    ))
    (λ (o : IsLineInOrder items views). off (sym (ap (λ (u : EndView). u.begun) first) ∙ (o.fits id v at).begun))
    h

head_is : (x y : BatchState) (xs : List BatchState) → x ∷ xs ≡ y ∷ [] → xs ≡ []
head_is x y xs e = ap (λ (l : List BatchState). tail l) e
  where
    tail : List BatchState → List BatchState
    tail [] = []
    tail (z ∷ zs) = zs

one : (batch : BatchState) (lists : LineLists) → EndFits lists 0 (begun_with batch) → (pass : ℕ) (u : EndView) → get_elem? (begun_with batch ∷ []) pass ≡ some u → EndFits lists pass u
one batch lists mine zero u e = subst (EndFits lists 0) (some-injective (begun_with batch) u e) mine
one batch lists mine (suc pass) u e = absurd (some-ne-none u (sym e))

pub starts : (id : ℕ) (v : EndView) (first : BatchState) → v ≡ opening (first ∷ []) → Pops IsLineSound id v (Opened v)
starts id v first is batch items views h at =
    ⊎_elim
    (λ only.
    let a = alone_at (batch ∷ items) views id v only at in
    let pushed : batch ∷ items ≡ first ∷ [] = sym (ap (λ (u : EndView). u.sent) a.1) ∙ ap (λ (u : EndView). u.sent) is in
    let none : items ≡ [] = head_is batch first items pushed in
    let lists : LineLists = record {
      sender = 0;
      receiver = 0;
      sent = [];
      received = [];
      building = batch.building;
      desk = batch.desk;
      ahead = batch.before;
      behind = batch.before;
      turns_ahead = batch.turns;
      next_turns = batch.turns;
    } in
    let mine : EndFits lists 0 (begun_with batch) = record { begun = refl; sends = λ _. (refl, refl, ([], refl), refl, refl, refl, refl); receives = λ _. (refl, refl, ([], refl), refl, refl, refl, refl) } in (
      begun_with batch,
      inr (subst (λ (p : List BatchState × List EndView). IsLineInOrder p.0 p.1) (λ i. (sym none i, sym (set_only views (opening (batch ∷ items)) (begun_with batch) id a.0 only) i))
          (record { lists = lists; in_order = refl; few = omega arith; goes_on = (refl, refl); fits = one batch lists mine; four = omega arith })),
      inr (record { only = ap (λ (u : EndView). u.sent) a.1 ∙ ap (λ l. batch ∷ l) none; begins = refl }),
    ))
    (λ (o : IsLineInOrder (batch ∷ items) views). off (sym (ap (λ (u : EndView). u.begun) is) ∙ (o.fits id v at).begun))
    h

some_sent : {A : Type 0} (batch : BatchState) → batch ∷ [] ≡ [] → A
some_sent batch e = absurd (cc)

pub named : (batch : BatchState) (w : EndView) → Opened opening_view batch w → w ≡ opening (batch ∷ [])
named batch w (inl push) = push.1
named batch w (inr pop) = some_sent batch (sym pop.only)

pub begun : (first batch : BatchState) (w v : EndView) → Opened opening_view first w → Opened w batch v → v ≡ begun_with first
begun first batch w v push (inl again) = some_sent first (sym (ap (λ (u : EndView). u.sent) (named first w push)) ∙ again.0)
begun first batch w v push (inr pop) = pop.begins ∙ ap begun_with (head_of batch first (sym pop.only ∙ ap (λ (u : EndView). u.sent) (named first w push)))
  where
    head_of : (x y : BatchState) → x ∷ [] ≡ y ∷ [] → x ≡ y
    head_of x y e = cc

longer : (first whole : List BatchState) (batch : BatchState) → Begins first whole → Begins first (whole ++ batch ∷ [])
longer first whole batch b = (b.0 ++ batch ∷ [], ap (λ l. l ++ batch ∷ []) b.1 ∙ append_assoc first b.0 (batch ∷ []))

pub sends : (n id : ℕ) (v : EndView) (batch : BatchState) → n ≡ MOST_BATCHES → v.begun ≡ true → v.sends ≡ true → length v.sent < most_batches → IsNextBatch v.building v.desk v.ahead v.turns_ahead batch → Pushes IsLineSound n id v batch (Sent v batch)
sends n id v batch four begun may room next items views few kept at =
    let h = ordered items views id v begun kept at in
    let l = h.lists in
    let w : EndView = record v { sent = v.sent ++ batch ∷ []; gone = l.received; ahead = batch.after; turns_ahead = next_turns batch } in
    let mine = h.fits id v at in
    let a = mine.sends may in
    let sent = l.sent ++ batch ∷ [] in
    let more : LineLists = record l { sent = sent; ahead = batch.after; turns_ahead = next_turns batch } in
    let order = ap (λ x. x ++ batch ∷ []) h.in_order ∙ append_assoc l.received items (batch ∷ []) in
    let here : IsNextBatch l.building l.desk l.ahead l.turns_ahead batch = record { of_building = next.of_building ∙ a.3; at_desk = next.at_desk ∙ a.4; on_state = next.on_state ∙ a.5; on_turns = next.on_turns ∙ a.6 } in
    let own : EndFits more id w = record {
      begun = mine.begun;
      sends = λ _. (a.0, ap (λ x. x ++ batch ∷ []) a.1, ([], sym (append-nil l.received)), a.3, a.4, refl, refl);
      receives = λ p. let r = mine.receives p in (r.0, r.1, longer v.known l.sent batch r.2, r.3, r.4, r.5, r.6);
    } in (
      w,
      inr (record {
        lists = more;
        in_order = order;
        few = omega (arith, length-append l.sent (batch ∷ []), ap length a.1);
        goes_on = goes_on_more l.building l.desk l.behind l.ahead l.next_turns l.turns_ahead items batch h.goes_on here;
        fits = fit_set more views id w own
            (λ j u apart e. let g = h.fits j u e in record {
              begun = g.begun;
              sends = λ p. absurd (apart ((g.sends p).0 ∙ sym a.0));
              receives = λ p. let r = g.receives p in (r.0, r.1, longer u.known l.sent batch r.2, r.3, r.4, r.5, r.6);
            });
        four = omega (arith, length-append items (batch ∷ []));
      }),
      record {
        begun = refl;
        sends = refl;
        receives = refl;
        sent = refl;
        building = refl;
        desk = refl;
        ahead = refl;
        turns = refl;
        items = items;
        few = subst (λ m. length items < m) four few;
        before = ap (λ x. x ++ batch ∷ []) a.1 ∙ order;
        later = a.2;
      },
    )

pub receives : (id : ℕ) (v : EndView) → v.begun ≡ true → v.receives ≡ true → Pops IsLineSound id v (Received v)
receives id v begun may batch items views kept at =
    let h = ordered (batch ∷ items) views id v begun kept at in
    let l = h.lists in
    let w : EndView = record v { received = v.received ++ batch ∷ []; known = l.sent; behind = batch.after; next_turns = next_turns batch } in
    let mine = h.fits id v at in
    let a = mine.receives may in
    let received = l.received ++ batch ∷ [] in
    let fewer : LineLists = record l { received = received; behind = batch.after; next_turns = next_turns batch } in
    let order = h.in_order ∙ sym (append_assoc l.received (batch ∷ []) items) in
    let first = h.goes_on.0 in
    let own : EndFits fewer id w = record {
      begun = mine.begun;
      sends = λ p. let r = mine.sends p in (r.0, r.1, longer v.gone l.received batch r.2, r.3, r.4, r.5, r.6);
      receives = λ _. (a.0, ap (λ x. x ++ batch ∷ []) a.1, ([], sym (append-nil l.sent)), a.3, a.4, refl, refl);
    } in (
      w,
      inr (record {
        lists = fewer;
        in_order = order;
        few = h.few;
        goes_on = h.goes_on.1;
        fits = fit_set fewer views id w own
            (λ j u apart e. let g = h.fits j u e in record {
              begun = g.begun;
              sends = λ p. let r = g.sends p in (r.0, r.1, longer u.gone l.received batch r.2, r.3, r.4, r.5, r.6);
              receives = λ p. absurd (apart ((g.receives p).0 ∙ sym a.0));
            });
        four = let most = h.four in omega arith;
      }),
      record {
        begun = refl;
        sends = refl;
        receives = refl;
        received = refl;
        building = refl;
        desk = refl;
        next = record { of_building = first.of_building ∙ sym a.3; at_desk = first.at_desk ∙ sym a.4; on_state = first.on_state ∙ sym a.5; on_turns = first.on_turns ∙ sym a.6 };
        behind = refl;
        turns = refl;
        known = (items, order ∙ ap (λ x. (x ++ batch ∷ []) ++ items) (sym a.1));
        few = let most = h.few in omega (arith, ap length order, length-append received items, length-append l.received (batch ∷ []), length-append v.received (batch ∷ []), ap length a.1);
        later = a.2;
      },
    )

pub sender_learns : (id : ℕ) (v : EndView) → v.begun ≡ true → v.sends ≡ true → Learns IsLineSound id v (SentAllBut v)
sender_learns id v begun may items views kept at =
    let h = ordered items views id v begun kept at in
    let a = (h.fits id v at).sends may in
    record { received = h.lists.received; all = a.1 ∙ h.in_order; later = a.2 }

pub receiver_learns : (id : ℕ) (v : EndView) → v.begun ≡ true → v.receives ≡ true → Learns IsLineSound id v (ReceivedBefore v)
receiver_learns id v begun may items views kept at =
    let h = ordered items views id v begun kept at in
    let a = (h.fits id v at).receives may in
    record { sent = h.lists.sent; all = h.in_order ∙ ap (λ x. x ++ items) (sym a.1); later = a.2 }

-- the pass with both rights leaves one to a new pass
pub ends : (id : ℕ) (v : EndView) → v.begun ≡ true → v.sends ≡ true → v.receives ≡ true → Forks IsLineSound id v (sending v) (receiving v)
ends id v begun may takes items views kept at =
    let h = ordered items views id v begun kept at in
    let l = h.lists in
    let mine = h.fits id v at in
    let a = mine.sends may in
    let b = mine.receives takes in
    let vs = set views id (sending v) in
    let next : LineLists = record l { receiver = length vs } in
    let Old : ℕ → EndView → Type 0 = λ j u. EndFits next j u × (u.receives ≢ true) in
    let old : (j : ℕ) (u : EndView) → get_elem? vs j ≡ some u → Old j u = λ j u e.
    ⊎_elim
    (λ (x : (j ≡ id) × (sending v ≡ u)). subst (λ (y : ℕ × EndView). Old y.0 y.1) (λ i. (sym x.0 i, x.1 i)) (record { begun = mine.begun; sends = λ _. a; receives = λ p. off p }, λ p. off p))
    (λ (x : (j ≢ id) × (get_elem? views j ≡ some u)).
    let g = h.fits j u x.1 in
    let no : u.receives ≢ true = λ p. x.0 ((g.receives p).0 ∙ sym b.0) in
    (record { begun = g.begun; sends = g.sends; receives = λ p. absurd (no p) }, no))
    (at_set views id j (sending v) u e) in
    inr (record {
      lists = next;
      in_order = h.in_order;
      few = h.few;
      goes_on = h.goes_on;
      four = h.four;
      fits = λ j u e. ⊎_elim
          (λ (x : get_elem? vs j ≡ some u). (old j u x).0)
          (λ (is : receiving v ≡ u). subst (EndFits next j) is (record {
            begun = mine.begun;
            sends = λ p. off p;
            receives = λ p. (at_end vs (receiving v) (receiving v) j (λ x. (old j (receiving v) x).1 takes) (e ∙ ap (λ (y : EndView). some y) (sym is)), b.1, b.2, b.3, b.4, b.5, b.6);
          }))
          (at_snoc vs (receiving v) u j e);
    })

-- what both know in one pass, but of what left the line and of what came into it
abbrev in_one : EndView → EndView → (gone known : List BatchState) → EndView
in_one v w gone known = record (with_both_passes v w) { gone = gone; known = known }

-- the sending pass takes in the receiving one, and knows what both know, of what left the line and of what came into it as much as is true
merges : (id other : ℕ) (v w : EndView) (gone known : List BatchState) → v.begun ≡ true → v.sends ≡ true → w.receives ≡ true
    → ((l : LineLists) → v.sent ≡ l.sent → Begins v.gone l.received → w.received ≡ l.received → Begins w.known l.sent → Begins gone l.received × Begins known l.sent)
    → Merges IsLineSound id v other w (in_one v w gone known) spent_pass
merges id other v w gone known begun may takes so items views kept at apart at_other =
    let h = ordered items views id v begun kept at in
    let l = h.lists in
    let both = in_one v w gone known in
    let vs = set views id both in
    let mine = h.fits id v at in
    let a = mine.sends may in
    let was : get_elem? views other ≡ some w = ⊎_elim (λ (x : (other ≡ id) × (both ≡ w)). absurd (apart x.0)) (λ (x : (other ≢ id) × (get_elem? views other ≡ some w)). x.1) (at_set views id other both w at_other) in
    let b = (h.fits other w was).receives takes in
    let told = so l a.1 a.2 b.1 b.2 in
    let next : LineLists = record l { receiver = id } in
    let Now : ℕ → EndView → Type 0 = λ j u. j ≢ other → EndFits next j u in
    let here : EndFits next id both = record {
      begun = mine.begun;
      sends = λ _. (a.0, a.1, told.0, a.3, a.4, a.5, a.6);
      receives = λ _. (refl, b.1, told.1, a.3, a.4, b.5, b.6);
    } in
    let now : (j : ℕ) (u : EndView) → get_elem? vs j ≡ some u → Now j u = λ j u e.
    ⊎_elim
    (λ (x : (j ≡ id) × (both ≡ u)). subst (λ (y : ℕ × EndView). Now y.0 y.1) (λ i. (sym x.0 i, x.1 i)) (λ _. here))
    (λ (x : (j ≢ id) × (get_elem? views j ≡ some u)). λ off_other.
    let g = h.fits j u x.1 in
    record { begun = g.begun; sends = g.sends; receives = λ p. absurd (off_other ((g.receives p).0 ∙ sym b.0)) })
    (at_set views id j both u e) in
    inr (record {
      lists = next;
      in_order = h.in_order;
      few = h.few;
      goes_on = h.goes_on;
      four = h.four;
      fits = fit_set next vs other spent_pass (record { begun = refl; sends = λ p. off p; receives = λ p. off p }) (λ j u off_other e. now j u e off_other);
    })

pub joins : (id : ℕ) (v : EndView) (other : ℕ) (w : EndView) → v.begun ≡ true → v.sends ≡ true → w.receives ≡ true → Merges IsLineSound id v other w (with_both_passes v w) spent_pass
joins id v other w begun may takes = merges id other v w v.gone w.known begun may takes (λ l sent left received came. (left, came))

all_of : (xs ys : List BatchState) → xs ≡ ys → Begins xs ys
all_of xs ys is = ([], sym is ∙ sym (append-nil xs))

pub tells : (id : ℕ) (v : EndView) (other : ℕ) (w : EndView) → v.begun ≡ true → v.sends ≡ true → w.receives ≡ true → Merges IsLineSound id v other w (told_both v w) spent_pass
tells id v other w begun may takes = merges id other v w w.received v.sent begun may takes (λ l sent left received came. (all_of w.received l.received received, all_of v.sent l.sent sent))

pub both_learn : (id : ℕ) (v : EndView) → v.begun ≡ true → v.sends ≡ true → v.receives ≡ true → Learns IsLineSound id v (HoldsUnreceived v)
both_learn id v begun may takes items views kept at =
    let h = ordered items views id v begun kept at in
    let a = (h.fits id v at).sends may in
    let b = (h.fits id v at).receives takes in
    record {
      all = a.1 ∙ h.in_order ∙ ap (λ x. x ++ items) (sym b.1);
      goes_on = subst (λ (p : Plan × List TableId × State × List ℕ × State × List ℕ). BatchesGoOn p.0 p.1 p.2 p.3 items p.4 p.5) (λ i. (sym a.3 i, sym a.4 i, sym b.5 i, sym b.6 i, sym a.5 i, sym a.6 i)) h.goes_on;
      four = h.four;
    }
