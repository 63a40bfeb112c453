use Rattle.std.proofs.Common.{◌≡◌, ℕ, suc, ◌+◌, List, [], ◌∷◌, ◌++◌, length, true≢false, sym, ap, ◌∙◌, arith}
use Rattle.std.proofs.lemmas.List.{length_push}
use Rattle.lift_desk.specs.Words.{number_of, last_of, ask_word}
use Rattle.lift_desk.specs.Steps.{with_ask}
use Rattle.lift_desk.specs.Seats.{TerminalSeat, seat_with}
use Rattle.lift_desk.proofs.Keeps.{asks_keep}
use Rattle.lift_desk.specs.lemmas.WordLists.{last_of-push}
use Rattle.lift_desk.proofs.seat.Seat.ask.Goals as goal

pub store-requires-clause-keeps : goal.store-requires-clause-keeps
store-requires-clause-keeps c id =
    let i = c.self.invariant in
    let turn = c.ask_word-word.ensures.word.turn in
    asks_keep _ _ _ _ i.asks (i.rests c.if-self.false) (omega arith) c.ask_word-word.ensures.word.spelled

pub invariant_of-self : goal.invariant_of-self
invariant_of-self c =
    let i = c.self.invariant in
    let e = c.store.ensures.tells in
    let old : List ℕ = c.self.inside.looker.view.terminal.asked in
    let word : ℕ = c.ask_word-word.result in
    let asked : c.store.new.self.view.terminal.asked ≡ old ++ word ∷ [] = ap (λ m. m.0.terminal.asked) e in
    let heard : c.store.new.self.view.terminal.heard ≡ c.self.inside.looker.view.terminal.heard = ap (λ m. m.0.terminal.heard) e in
    let one_more : length c.store.new.self.view.terminal.asked ≡ length old + 1 = ap length asked ∙ length_push old word in
    let same : length c.store.new.self.view.terminal.heard ≡ length c.self.inside.looker.view.terminal.heard = ap length heard in
    let free = i.rests c.if-self.false in record {
      seated = c.store.ensures.same.0;
      asks = ap (λ m. m.0.asks) e ∙ i.asks;
      no_asks_read = ap (λ m. m.0.clerk.looks) e ∙ i.no_asks_read;
      turn = omega arith;
      in_range = omega arith;
      number = sym c.ask_word-word.ensures.word.number ∙ ap number_of (sym (last_of-push old word)) ∙ ap (λ l. number_of (last_of l)) (sym asked);
      waits = λ _. omega arith;
      rests = λ k. absurd (true≢false k);
    }

pub returns-clause-ok : goal.returns-clause-ok
returns-clause-ok c =
    let e = c.store.ensures.tells in
    let old : List ℕ = c.self.inside.looker.view.terminal.asked in
    let word : ℕ = c.ask_word-word.result in
    let asked : c.store.new.self.view.terminal.asked ≡ old ++ word ∷ [] = ap (λ m. m.0.terminal.asked) e in
    let heard : c.store.new.self.view.terminal.heard ≡ c.self.inside.looker.view.terminal.heard = ap (λ m. m.0.terminal.heard) e in
    let one_more : length c.store.new.self.view.terminal.asked ≡ length old + 1 = ap length asked ∙ length_push old word in
    let same : length c.store.new.self.view.terminal.heard ≡ length c.self.inside.looker.view.terminal.heard = ap length heard in
    let free = c.self.invariant.rests c.if-self.false in
    let turn = c.self.invariant.turn in
    let next : c.self.inside.turn + 1 ≡ suc (length old) = omega arith in
    let word_is : word ≡ ask_word (suc (length old)) c.args.number c.args.body = c.ask_word-word.ensures.word.is ∙ ap (λ n. ask_word n c.args.number c.args.body) next in
    let view : c.store.new.self.view.terminal ≡ with_ask c.self.inside.looker.view.terminal (ask_word (suc (length old)) c.args.number c.args.body) =
    ap (λ m. m.0.terminal) e ∙ ap (with_ask c.self.inside.looker.view.terminal) word_is in
    record {
      stored = (λ k. record { table = c.store.ensures.same.1 k; terminal = c.self.inside.terminal; view = view k })
          ∙ ap (λ (s : TerminalSeat). seat_with s (with_ask s.view (ask_word (suc (length s.view.asked)) c.args.number c.args.body))) c.self.view_is;
      waits = omega arith;
      last = ap (λ l. number_of (last_of l)) asked ∙ ap number_of (last_of-push old word) ∙ c.ask_word-word.ensures.word.number;
      in_range = c.ask_word-word.ensures.in_range;
    }
