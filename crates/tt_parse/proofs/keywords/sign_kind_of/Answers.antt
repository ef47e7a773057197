use Rattle.std.proofs.Common.{◌≡◌, ℕ, List, false, bytes_eq, sym, subst}
use Rattle.tt_terminal.specs.KindNumbers.{kind_number}
use Rattle.tt_parse.proofs.Tables.{sign_stands}
use Rattle.tt_parse.proofs.keywords.sign_kind_of.Goals as goal

pub returns-in-Some : goal.returns-in-Some
returns-in-Some c = sign_stands c.args.sign.now (kind_number c.in-Some.kind) c.requires (subst (λ (x : List ℕ). bytes_eq c.args.sign.now x ≡ false) c.as_slice.ensures (sym c.if-eq.ensures)) c.in-Some.ensures.within c.in-Some.ensures.number_is
