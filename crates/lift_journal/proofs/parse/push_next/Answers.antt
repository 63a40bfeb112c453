use Rattle.std.proofs.Common.{◌≡◌, ◌≢◌, Bool, true, false, not, is_some, ◌++◌, ◌∷◌, [], ℕ, List, Option, Some, None, refl, subst}
use Rattle.std.specs.Option.{IfSome, option_to_list}
use Rattle.lift_base.specs.declared.history.Record.{Record}
use Rattle.lift_record.specs.declared.version.Version.{Version}
use Rattle.lift_record.specs.Record.{IsSpellingOf}
use Rattle.lift_journal.proofs.parse.push_next.Goals as goal

-- what was found is what was pushed
pushed_found : (version : Version) (bytes : List ℕ) (found : Option Record) (before after : List Record)
    → IfSome found (λ content. (v : Version) → IsSpellingOf v bytes content)
    → after ≡ before ++ option_to_list found → found ≢ None
    → (x : Record) × IsSpellingOf version bytes x × after ≡ before ++ x ∷ []
pushed_found version bytes None before after spells is some = absurd (some refl)
pushed_found version bytes (Some x) before after spells is some = (x, spells version, is)

none_told : (found : Option Record) (none : Bool) → found ≡ None → is_some found ≡ not none → none ≡ false → ⊥
none_told found true is told there = absurd (cc there)
none_told found false is told there = absurd (cc (is, told))

pub returns-clause-pushed : goal.returns-clause-pushed
returns-clause-pushed c is =
    let pushed = pushed_found c.args.version c.sixteen.result c.decode_stop-stop.result c.args.records.now.items c.push_some.new.list.items c.decode_stop-stop.ensures.some c.push_some.ensures
    (λ none. none_told c.decode_stop-stop.result c.is_none.result none c.is_none.ensures c.if-is_none.false) in
    (pushed.0, subst (λ (l : List ℕ). IsSpellingOf c.args.version l pushed.0) c.sixteen.ensures pushed.1, pushed.2)
