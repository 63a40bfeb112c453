-- A scan is the machine's.
use Rattle.lift_clerk.specs.TakenAndAnswered.{ask_of}
use Rattle.std.proofs.Common.{ℕ, zero, suc, ◌≡◌, ◌+◌, ◌*◌, ◌^◌, ◌<◌, ◌≤◌, Bool, true, cond, List, [], ◌∷◌, ◌++◌, length, map, Option, Some, None, refl, sym, ap, subst, ◌∙◌, arith, append_assoc}
use Rattle.std.specs.Prelude.{filter, All, Contains}
use Rattle.std.proofs.lemmas.Bool.{ne_eqb, eq-eqb, eqb-true}
use Rattle.std.proofs.lemmas.List.{append-nil, length-append, length-map}
use Rattle.std.proofs.lemmas.List.Elements.{filter_passes}
use mathlib.Core.List.{map-append}
use Rattle.lift_base.specs.declared.travel.Dir.{Dir}
use Rattle.lift_base.specs.declared.travel.Dir.TheVariants.{Up, Down}
use Rattle.lift_base.specs.declared.command.Body.{Body}
use Rattle.lift_base.specs.declared.command.Body.TheVariants.{Call, Stop, Place}
use Rattle.lift_base.specs.declared.command.Reply.{Reply}
use Rattle.lift_base.specs.declared.history.Entry.{Entry}
use Rattle.lift_building.specs.Plan.{Plan}
use Rattle.lift_desk.specs.declared.view.ClerkView.{ClerkView}
use Rattle.lift_desk.specs.declared.words.Ask.{Ask}
use Rattle.lift_desk.specs.Rule.{CountTurns, IsAhead}
use Rattle.lift_desk.specs.Words.{turn_of, last_of, dir_bit, body_bits, ask_word, IsBodyInRange}
use Rattle.lift_desk.specs.Spelled.{ask_words, IsAsk}
use Rattle.lift_desk.specs.Steps.{with_taking}
use Rattle.lift_desk.specs.Seats.{ClerkPlace, view_at, TakesOf}
use Rattle.lift_desk.specs.lemmas.WordLists.{last_of-push, turn_of-last_of, CountTurns-front, turn_at_most, turn_is_last}
use Rattle.lift_policy.specs.Eligible.{Choice}
use Rattle.lift_policy.specs.Step.{State}
use Rattle.lift_policy.specs.Run.{Run}
use Rattle.lift_policy.specs.declared.command.Command.{Command}
use Rattle.lift_world.specs.World.{World, asks}
use Rattle.lift_clerk.specs.Turn.{without_batch}
use Rattle.lift_clerk.specs.Visits.{Visit, AreLooksAt, command_at, commands_of, looked_at}
use Rattle.lift_clerk.specs.Tied.{IsReached, on_way, ShowsBoth}
use Rattle.lift_clerk.specs.Laws.{Laws}
use Rattle.lift_clerk.specs.lemmas.Tied.{nothing_gathered}
use Rattle.lift_clerk.specs.lemmas.Lists.{AreOthers, no_asks}
use Rattle.lift_clerk.specs.lemmas.Served.{behind}
use Rattle.lift_clerk.specs.lemmas.Found.{AllWait, few}
use Rattle.lift_clerk.specs.lemmas.Words.{last_has, one_ask, asks_both, asks_count}
use Rattle.lift_clerk.specs.lemmas.Visiting.{taken-new, taken-old}
use Rattle.lift_clerk.specs.declared.counts.Counts.{Counts}
use Rattle.lift_parts.specs.Batch.{BatchState, AreBelow, replies_in}
use Rattle.lift_parts.specs.Scan.{TakesAt}
use Rattle.lift_clerk.specs.lemmas.Looking.{length-looked}
use Rattle.lift_parts.specs.Allocator.{AllocatorState, IsScanTurn}
use Rattle.lift_parts.specs.Tie.{TakesAsked, QueuedHaveRoom, NothingTakenIsNoEvent}
use Rattle.lift_parts.specs.lemmas.Used.{below_is}
use Rattle.lift_parts.proofs.Tied.{shown_same}

-- each look takes the word of its place's next turn, or nothing
abbrev pub Reads : List ClerkPlace → List Visit → Type 0
Reads places visits = AreLooksAt (λ p v. TakesOf p.view v.word v.found) places visits

-- ---- one look
dir_small : (d : Dir) → dir_bit d ≤ 1
dir_small Up = omega arith
dir_small Down = omega arith

bits_small : (b : Body) → IsBodyInRange b → body_bits b < 2 ^ 20
bits_small (Call floor party) h = omega arith
bits_small (Stop floor dir) h = let d = dir_small dir in omega arith
bits_small (Place floor dir) h = let d = dir_small dir in omega arith

word_turn : (turn n b : ℕ) → n < 2 ^ 24 → b < 2 ^ 20 → turn_of (turn * 2 ^ 44 + n * 2 ^ 20 + b) ≡ turn
word_turn turn n b ns bs = omega arith

-- the words of asks have the turns from the first on
turns_count : (first : ℕ) (asks : List Ask) → All IsAsk asks → CountTurns first (ask_words first asks)
turns_count first [] in_range = tt
turns_count first (a ∷ asks) in_range =
    let one : IsAsk a = in_range 0 a (omega arith) in
    (word_turn first a.number (body_bits a.body) one.0 (bits_small a.body one.1), turns_count (suc first) asks (λ k d below. in_range (suc k) d (omega arith)))

module _ (laws : Laws) (w : World) (reached : IsReached w) (t : ℕ) (p : ClerkPlace) (after_it : ClerkView) (s : ShowsBoth w t p.view.taken after_it) where
  abbrev fa : List Command
  fa = s.first ++ on_way w t

  all_asks : map ask_of (filter (asks t) w.asked) ≡ map ask_of fa ++ map ask_of s.waiting
  all_asks = ap (map ask_of) s.asked ∙ map-append ask_of fa s.waiting

  module _ (word : ℕ) (ask : Ask) (at : TakesAt p (record { word = word; found = Some ask })) (asked : TakesAsked w.asked t (with_taking p.view word)) where
    abbrev command : Command
    command = record { terminal = t; number = ask.number; body = ask.body }

    abbrev all_words : List ℕ
    all_words = ask_words 1 (map ask_of (filter (asks t) w.asked))

    words_are : all_words ≡ ask_words 1 (map ask_of fa) ++ ask_words (1 + length (map ask_of fa)) (map ask_of s.waiting)
    words_are = ap (ask_words 1) all_asks ∙ asks_both 1 (map ask_of fa) (map ask_of s.waiting)

    -- its turn is after those of all that was taken, and no later than that of the last ask
    was_asked : Contains all_words word
    was_asked = last_has (Contains all_words) p.view.taken word [] (subst (All (Contains all_words)) (taken-new p.view word at.reads.0) asked.ahead.asked_all)

    counted : CountTurns 1 all_words
    counted = turns_count 1 (map ask_of (filter (asks t) w.asked)) asked.in_range

    long : length all_words ≡ length fa + length s.waiting
    long = asks_count 1 (map ask_of (filter (asks t) w.asked)) ∙ length-map (filter (asks t) w.asked) ask_of ∙ ap length s.asked ∙ length-append fa s.waiting

    taken_turn : turn_of (last_of p.view.taken) ≡ length fa
    taken_turn =
        turn_of-last_of p.view.taken (subst (CountTurns 1) (sym s.taken) (CountTurns-front 1 (ask_words 1 (map ask_of fa)) (ask_words (1 + length (map ask_of fa)) (map ask_of s.waiting)) (subst (CountTurns 1) words_are counted)))
        ∙ ap length s.taken ∙ asks_count 1 (map ask_of fa) ∙ length-map fa ask_of

    above : length fa < turn_of word
    above = subst (λ (n : ℕ). n < turn_of word) taken_turn (below_is (turn_of (last_of p.view.taken)) (turn_of word) at.reads.0)

    most : turn_of word ≤ length all_words
    most = turn_at_most all_words word counted was_asked

    -- where one waits it is that one's
    last_word : (d : Command) → s.waiting ≡ d ∷ [] → word ≡ ask_word (1 + length (map ask_of fa)) d.number d.body
    last_word d e =
        let up = above in
        let le = most in
        let all = long in
        turn_is_last all_words word counted was_asked (omega (arith, ap length e)) ∙ ap last_of words_are
        ∙ ap (λ (cs : List Command). last_of (ask_words 1 (map ask_of fa) ++ ask_words (1 + length (map ask_of fa)) (map ask_of cs))) e
        ∙ last_of-push (ask_words 1 (map ask_of fa)) (ask_word (1 + length (map ask_of fa)) d.number d.body)

    -- the word is the next ask's
    pub record Next (d : Command) : Type 0 where
      pub is : d ≡ command
      pub turn : word ≡ ask_word (suc (length p.view.taken)) ask.number ask.body

    next_is : (d : Command) → s.waiting ≡ d ∷ [] → Next d
    next_is d e =
        let split : filter (asks t) w.asked ≡ fa ++ d ∷ [] = s.asked ∙ ap (λ (cs : List Command). fa ++ cs) e in
        let own : d.terminal ≡ t =
        eqb-true d.terminal t (last_has (λ (x : Command). asks t x ≡ true) fa d [] (subst (All (λ (x : Command). asks t x ≡ true)) split (filter_passes (asks t) w.asked))) in
        let spelled : IsAsk (ask_of d) = last_has IsAsk (map ask_of fa) (ask_of d) [] (subst (All IsAsk) (all_asks ∙ ap (λ (cs : List Command). map ask_of fa ++ map ask_of cs) e) asked.in_range) in
        let count : suc (length p.view.taken) ≡ 1 + length (map ask_of fa) = omega (arith, ap length s.taken, asks_count 1 (map ask_of fa)) in
        let first : word ≡ ask_word (suc (length p.view.taken)) d.number d.body = last_word d e ∙ ap (λ (n : ℕ). ask_word n d.number d.body) (sym count) in
        let same = one_ask (turn_of word) (suc (length p.view.taken)) ask (ask_of d) at.in_range spelled (sym at.reads.1 ∙ first) in
        record {
          is = λ i. record { terminal = own i; number = sym same.0 i; body = sym same.1 i };
          turn = first ∙ (λ i. ask_word (suc (length p.view.taken)) (sym same.0 i) (sym same.1 i));
        }

    one : (d : Command) → s.waiting ≡ d ∷ [] → Next d → (s.waiting ≡ command ∷ []) × (word ≡ ask_word (suc (length p.view.taken)) ask.number ask.body)
    one d e n =
        (e ∙ ap (λ (x : Command). x ∷ []) n.is, n.turn)

    by_waiting : (waiting : List Command) → s.waiting ≡ waiting → (s.waiting ≡ command ∷ []) × (word ≡ ask_word (suc (length p.view.taken)) ask.number ask.body)
    by_waiting [] e = let up = above in let le = most in let all = long in absurd (omega (arith, ap length e))
    by_waiting (d ∷ []) e = one d e (next_is d e)
    by_waiting (d ∷ x ∷ more) e = let le = few laws w reached t s in absurd (omega (arith, ap length e))

    pub stands : (s.waiting ≡ command ∷ []) × (word ≡ ask_word (suc (length p.view.taken)) ask.number ask.body)
    stands = by_waiting s.waiting refl

-- ---- all looks
-- lists with beginnings of one length have the same rest
pub same_after : {A : Type 0} (xs ys us vs : List A) → length xs ≡ length ys → xs ++ us ≡ ys ++ vs → us ≡ vs
same_after [] [] us vs l e = e
same_after [] (y ∷ ys) us vs l e = absurd (omega arith)
same_after (x ∷ xs) [] us vs l e = absurd (omega arith)
same_after (x ∷ xs) (y ∷ ys) us vs l e = same_after xs ys us vs (omega arith) (cc)

pub looked_first : (place : ClerkPlace) (places : List ClerkPlace) (word : ℕ) (found : Option Ask) (visits : List Visit)
    → (view_at (looked_at (place ∷ places) (record { word = word; found = found } ∷ visits)) 0).taken ≡ (with_taking place.view word).taken
looked_first place places word found visits = refl

pub looked_after : (place : ClerkPlace) (places : List ClerkPlace) (word : ℕ) (found : Option Ask) (visits : List Visit) (k : ℕ)
    → view_at (looked_at (place ∷ places) (record { word = word; found = found } ∷ visits)) (suc k) ≡ view_at (looked_at places visits) k
looked_after place places word found visits k = refl

pub asked_same : (w : World) (t : ℕ) (u v : ClerkView) → u.taken ≡ v.taken → TakesAsked w.asked t u → TakesAsked w.asked t v
asked_same w t u v e k = record { ahead = subst (λ (xs : List ℕ). IsAhead (ask_words 1 (map ask_of (filter (asks t) w.asked))) xs) e k.ahead; in_range = k.in_range }

module _ (laws : Laws) (w : World) (reached : IsReached w) (ahead later : ℕ → ClerkView) (s : (t : ℕ) → ShowsBoth w t (ahead t).taken (later t)) where
  all_both : (xs ys : List Command) → AllWait s xs → AllWait s ys → AllWait s (xs ++ ys)
  all_both [] ys h k = k
  all_both (x ∷ xs) ys h k = (h.0, all_both xs ys h.1 k)

  -- at a place that has these words
  abbrev shows_at : (t : ℕ) (p : ClerkPlace) → p.view ≡ ahead t → ShowsBoth w t p.view.taken (later t)
  shows_at t p e = record {
    first = (s t).first;
    waiting = (s t).waiting;
    asked = (s t).asked;
    taken = ap (λ (v : ClerkView). v.taken) e ∙ (s t).taken;
    looked = (s t).looked;
    answered = (s t).answered;
    even = (s t).even;
  }

  look_at : (t : ℕ) (p : ClerkPlace) → p.view ≡ ahead t → (word : ℕ) (found : Option Ask) → TakesAt p (record { word = word; found = found })
      → TakesAsked w.asked t (with_taking p.view word) → TakesOf p.view word found × AllWait s (command_at t found)
  look_at t p e word None at asked = (at.reads, tt)
  look_at t p e word (Some ask) at asked =
      let k = stands laws w reached t p (later t) (shows_at t p e) word ask at asked in
      ((at.reads.0, k.1), (k.0, tt))

  pub looks_from : (first : ℕ) (places : List ClerkPlace) (visits : List Visit) → ((k t : ℕ) → t ≡ first + k → view_at places k ≡ ahead t) → AreLooksAt TakesAt places visits
      → ((k t : ℕ) → t ≡ first + k → TakesAsked w.asked t (view_at (looked_at places visits) k)) → Reads places visits × AllWait s (commands_of first visits)
  looks_from first places [] same takes asked = (tt, tt)
  looks_from first [] (u ∷ visits) same takes asked = absurd takes
  looks_from first (p ∷ places) (u ∷ visits) same takes asked =
      let here = look_at first p (same 0 first (omega arith)) u.word u.found takes.0
      (asked_same w first (view_at (looked_at (p ∷ places) (u ∷ visits)) 0) (with_taking p.view u.word) (looked_first p places u.word u.found visits) (asked 0 first (omega arith))) in
      let rest = looks_from (suc first) places visits (λ k t e. same (suc k) t (omega arith)) takes.1
      (λ k t e. subst (TakesAsked w.asked t) (looked_after p places u.word u.found visits k) (asked (suc k) t (omega arith))) in
      ((here.0, rest.0), all_both (command_at first u.found) (commands_of (suc first) visits) here.1 rest.1)

-- ---- what the looks leave
abbrev Later : List ClerkPlace → List Visit → ℕ → Type 0
Later places visits first = (k t : ℕ) → t ≡ first + k
    → (view_at (looked_at places visits) k).taken ≡ (view_at places k).taken ++ ask_words (suc (length (view_at places k).taken)) (map ask_of (filter (asks t) (commands_of first visits)))

none_more : (xs : List ℕ) (t n : ℕ) (cs : List Command) → AreOthers t cs → xs ≡ xs ++ ask_words n (map ask_of (filter (asks t) cs))
none_more xs t n cs others = sym (append-nil xs) ∙ ap (λ (ds : List Command). xs ++ ask_words n (map ask_of ds)) (sym (no_asks t cs others))

left_at : (place : ClerkPlace) (places : List ClerkPlace) (word : ℕ) (found : Option Ask) (visits : List Visit) (first : ℕ) → TakesOf place.view word found → Later places visits (suc first)
    → Later (place ∷ places) (record { word = word; found = found } ∷ visits) first
left_at place places word None visits first reads later zero t e =
    taken-old place.view word reads ∙ none_more place.view.taken t (suc (length place.view.taken)) (commands_of (suc first) visits) (behind t (suc first) visits (omega arith))
left_at place places word None visits first reads later (suc k) t e = later k t (omega arith)
left_at place places word (Some ask) visits first reads later zero t e =
    let c : Command = record { terminal = first; number = ask.number; body = ask.body } in
    let rest = commands_of (suc first) visits in
    let at : first ≡ t = omega arith in
    let own : filter (asks t) (c ∷ rest) ≡ c ∷ [] =
    ap (λ (b : Bool). cond b (c ∷ filter (asks t) rest) (filter (asks t) rest)) (eq-eqb first t at) ∙ ap (λ (cs : List Command). c ∷ cs) (no_asks t rest (behind t (suc first) visits (omega arith))) in
    taken-new place.view word reads.0 ∙ ap (λ (n : ℕ). place.view.taken ++ n ∷ []) reads.1
    ∙ ap (λ (cs : List Command). place.view.taken ++ ask_words (suc (length place.view.taken)) (map ask_of cs)) (sym own)
left_at place places word (Some ask) visits first reads later (suc k) t e =
    let c : Command = record { terminal = first; number = ask.number; body = ask.body } in
    let rest = commands_of (suc first) visits in
    let other : filter (asks t) (c ∷ rest) ≡ filter (asks t) rest =
    ap (λ (b : Bool). cond b (c ∷ filter (asks t) rest) (filter (asks t) rest)) (ne_eqb first t (λ q. absurd (omega arith))) in
    later k t (omega arith) ∙ ap (λ (cs : List Command). (view_at places k).taken ++ ask_words (suc (length (view_at places k).taken)) (map ask_of cs)) (sym other)

pub left : (places : List ClerkPlace) (visits : List Visit) (first : ℕ) → Reads places visits → Later places visits first
left places [] first reads k t e = sym (append-nil (view_at places k).taken)
left [] (u ∷ visits) first reads k t e = absurd reads
left (p ∷ places) (u ∷ visits) first reads k t e = left_at p places u.word u.found visits first reads.0 (left places visits (suc first) reads.1) k t e

-- the commands are of the seats' terminals
below_at : (count first : ℕ) (found : Option Ask) (rest : List Command) → first < count → AreBelow count rest → AreBelow count (command_at first found ++ rest)
below_at count first None rest le h = h
below_at count first (Some ask) rest le h = (le, h)

pub below : (count first : ℕ) (places : List ClerkPlace) (visits : List Visit) → first + length places ≤ count → AreLooksAt TakesAt places visits → AreBelow count (commands_of first visits)
below count first places [] le takes = tt
below count first [] (u ∷ visits) le takes = absurd takes
below count first (p ∷ places) (u ∷ visits) le takes = below_at count first u.found (commands_of (suc first) visits) (omega arith) (below count (suc first) places visits (omega arith) takes.1)

-- ---- a scan that took nothing
nothing_at : (place : ClerkPlace) (word : ℕ) (found : Option Ask) (first : ℕ) (rest : List Command) → TakesAt place (record { word = word; found = found }) → command_at first found ++ rest ≡ []
    → TakesOf place.view word found × (rest ≡ [])
nothing_at place word None first rest at none = (at.reads, none)
nothing_at place word (Some ask) first rest at none = absurd (cc)

nothing_read : (places : List ClerkPlace) (visits : List Visit) (first : ℕ) → AreLooksAt TakesAt places visits → commands_of first visits ≡ [] → Reads places visits
nothing_read places [] first takes none = tt
nothing_read [] (u ∷ visits) first takes none = absurd takes
nothing_read (p ∷ places) (u ∷ visits) first takes none =
    let k = nothing_at p u.word u.found first (commands_of (suc first) visits) takes.0 none in
    (k.0, nothing_read places visits (suc first) takes.1 k.1)

-- what the line holds
pub have_room : {D P : Type 0} → QueuedHaveRoom D P
have_room a f q = (
  (let four = q.four in omega (arith, ap length q.in_order, length-append f.end.received q.items)),
  (q.items ++ a.hand, ap (λ (xs : List BatchState). xs ++ a.hand) q.in_order ∙ append_assoc f.end.received q.items a.hand),
)

empty_run : (plan : Plan) (choice : Choice) (state next : State) (cs : List Command) (rs : List Reply) → cs ≡ [] → Run plan choice state cs rs next → next ≡ state
empty_run plan choice state next [] [] e r = r
empty_run plan choice state next [] (reply ∷ rs) e r = absurd r
empty_run plan choice state next (c ∷ cs) rs e r = absurd (cc)

-- of each terminal as much is taken as before
pub nothing_seen : {P : Type 0} (choice : Choice) (a b : AllocatorState P) (counts : Counts) (t : IsScanTurn choice a b counts) → commands_of 0 t.visits ≡ [] → (k : ℕ) → (view_at b.seat k).taken ≡ (view_at a.seat k).taken
nothing_seen choice a b counts t none k =
    ap (λ (x : List ClerkPlace). (view_at x k).taken) t.looked ∙ left a.seat t.visits 0 (nothing_read a.seat t.visits 0 t.takes none) k k (omega arith)
    ∙ ap (λ (cs : List Command). (view_at a.seat k).taken ++ ask_words (suc (length (view_at a.seat k).taken)) (map ask_of (filter (asks k) cs))) none ∙ append-nil (view_at a.seat k).taken

pub nothing_taken : {D P : Type 0} (choice : Choice) → NothingTakenIsNoEvent D P choice
nothing_taken {D} {P} choice w a b f counts t none m =
    shown_same w a b f t.same_place.1
    (λ e q.
    let same : t.decided ≡ a.state = empty_run a.plan choice a.state t.decided (commands_of 0 t.visits) (replies_in t.batch.commands) none t.run in
    let empty : a.state.batch ≡ [] = ap (λ (x : State). x.batch) (sym q) ∙ nothing_gathered w m.tied.between in
    t.after ∙ ap without_batch same ∙ ap (λ (xs : List Entry). record a.state { batch = xs }) (sym empty))
    (ap (λ (x : List ClerkPlace). length x) t.looked ∙ length-looked a.seat t.visits)
    (t.nothing none).0
    (λ k. nothing_seen choice a b counts t none k)
    m
