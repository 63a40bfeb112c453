use Rattle.std.proofs.Common.{codes, refl, subst, sym}
use Rattle.clap.specs.Words.{found_of, rows_of}
use Rattle.lift_program.specs.Words.{IsAbsentLast, IsCount, IsPolicy}
use Rattle.lift_program.proofs.Rows.{if_none, no_serve, text_in}
use Rattle.lift_program.proofs.words.serve_of.Goals as goal

pub returns-in_err-image-clause-none : goal.returns-in_err-image-clause-none
returns-in_err-image-clause-none c = if_none c.from_residual.result _ (no_serve (rows_of (found_of c.args.matches.now)) (λ image building port sessions policy is. c.in_err-image.ensures.none image.now building.now is.0))

pub returns-in_err-port-clause-none : goal.returns-in_err-port-clause-none
returns-in_err-port-clause-none c =
    let same = text_in (found_of c.args.matches.now) (codes "port") c.get_str.result c.get_str.result c.get_str.ensures refl in
    if_none c.from_residual-in_err-port.result _ (no_serve (rows_of (found_of c.args.matches.now)) (λ image building port sessions policy is. c.in_err-port.ensures.none port (subst (λ w. IsCount 65535 w port) same is.1)))

pub returns-in_err-sessions-clause-none : goal.returns-in_err-sessions-clause-none
returns-in_err-sessions-clause-none c =
    let same = text_in (found_of c.args.matches.now) (codes "sessions") c.get_str-2.result c.get_str-2.result c.get_str-2.ensures refl in
    if_none c.from_residual-in_err-sessions.result _ (no_serve (rows_of (found_of c.args.matches.now)) (λ image building port sessions policy is. c.in_err-sessions.ensures.none sessions (subst (λ w. IsCount 1000000 w sessions) same is.2)))

pub returns-in_err-policy-clause-none : goal.returns-in_err-policy-clause-none
returns-in_err-policy-clause-none c =
    let same = text_in (found_of c.args.matches.now) (codes "policy") c.get_str-3.result c.get_str-3.result c.get_str-3.ensures refl in
    if_none c.from_residual-in_err-policy.result _ (no_serve (rows_of (found_of c.args.matches.now)) (λ image building port sessions policy is. c.in_err-policy.ensures.none policy.policy (subst (λ w. IsPolicy w policy.policy) same is.3)))

pub returns-clause-some : goal.returns-clause-some
returns-clause-some c =
    let found = found_of c.args.matches.now in
    let port = text_in found (codes "port") c.get_str.result c.get_str.result c.get_str.ensures refl in
    let sessions = text_in found (codes "sessions") c.get_str-2.result c.get_str-2.result c.get_str-2.ensures refl in
    let policy = text_in found (codes "policy") c.get_str-3.result c.get_str-3.result c.get_str-3.ensures refl in
    let last = text_in found (codes "absent-last") c.get_str-4.result c.get_str-4.result c.get_str-4.ensures refl in (
      c.in_ok-image.ensures.some,
      subst (λ w. IsCount 65535 w c.in_ok-port.port) (sym port) c.in_ok-port.ensures.some,
      subst (λ w. IsCount 1000000 w c.in_ok-sessions.sessions) (sym sessions) c.in_ok-sessions.ensures.some,
      subst (λ w. IsPolicy w c.in_ok-policy.policy) (sym policy) c.in_ok-policy.ensures.some,
      subst (λ w. IsAbsentLast w c.is_there-absent_last.result) (sym last) c.is_there-absent_last.ensures,
    )
