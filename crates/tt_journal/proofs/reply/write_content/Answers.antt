-- The number that was passed is the one that was given.
use Rattle.std.proofs.Common.{rules, ◌≡◌, ◌++◌, subst, sym, List, ℕ, ℤ, w64, FitsSigned}
use Rattle.std.proofs.lemmas.Int.{to_z-of_z}
use Rattle.std.proofs.lemmas.List.{append-nil}
use Rattle.std.specs.Prelude.{codes, OnOk}
use Rattle.std.specs.Fmt.{signed_decimal}
use Rattle.tt_journal.proofs.reply.write_content.Goals as goal

pub returns-in-Signed : goal.returns-in-Signed
returns-in-Signed c =
    let fits : FitsSigned w64 c.in-Signed.number = search rules in
    let text : OnOk c.write_signed.result (c.write_signed.new.out.items ≡ c.args.out.now.items ++ (codes " " ++ signed_decimal c.in-Signed.number)) = subst (λ (z : ℤ). OnOk c.write_signed.result (c.write_signed.new.out.items ≡ c.args.out.now.items ++ (codes " " ++ signed_decimal z))) (to_z-of_z w64 c.in-Signed.number fits) c.write_signed.ensures.ok in
    record { ok = rw c.in-Signed.is (subst (λ (line : List ℕ). OnOk c.write_signed.result (c.write_signed.new.out.items ≡ c.args.out.now.items ++ line)) (sym (append-nil (codes " " ++ signed_decimal c.in-Signed.number))) text) }
