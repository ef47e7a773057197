use Rattle.std.proofs.Common.{◌≡◌, ◌≢◌, ◌++◌, ◌+◌, ◌∷◌, [], false, true, List, ℕ, Option, Some, None, Bor, length, take, drop, ap, sym, ◌∙◌, append_assoc}
use Rattle.std.specs.Prelude.{IfNone, IfSome, MatchOption}
use Rattle.std.proofs.Math.Seq.{drop-append_seam}
use Rattle.std.specs.Str.{bytes_eq}
use Rattle.tt_travel.proofs.Numbers.{stripped, not_stripped}
use Rattle.tt_travel.proofs.statements.behind_name.Goals as goal

abbrev Stripped : List ℕ → Option (Bor (List ℕ)) → Type 0
Stripped text r = MatchOption r (bytes_eq (take 1 text) (45 ∷ []) ≡ false) (λ x. (bytes_eq (take 1 text) (45 ∷ []) ≡ true) × (x.now ≡ drop 1 text) × (length x.now + 1 ≡ length text))

parts : (text name behind : List ℕ) (r : Option (Bor (List ℕ))) → name ++ behind ≡ text → Stripped behind r → IfSome r (λ rest. name ++ (45 ∷ []) ++ rest.now ≡ text)
parts text name behind None e h = tt
parts text name behind (Some rest) e h = append_assoc name (45 ∷ []) rest.now ∙ ap (λ (l : List ℕ). name ++ l) (stripped behind (45 ∷ []) rest.now h.0 h.1) ∙ e

none : (text name behind : List ℕ) (r : Option (Bor (List ℕ))) → name ++ behind ≡ text → behind ≡ drop (length name) text → Stripped behind r → IfNone r ((rest : List ℕ) → name ++ (45 ∷ []) ++ rest ≢ text)
none text name behind None e is h = λ rest same. not_stripped behind (45 ∷ []) h rest (sym (drop-append_seam name (45 ∷ rest)) ∙ ap (drop (length name)) (sym (append_assoc name (45 ∷ []) rest) ∙ same) ∙ sym is)
none text name behind (Some rest) e is h = tt

pub returns-in_err-strip_prefix-clause-none : goal.returns-in_err-strip_prefix-clause-none
returns-in_err-strip_prefix-clause-none c = rw c.from_residual.ensures (λ rest e. not_stripped _ _ c.in_err-strip_prefix.ensures.cases (45 ∷ rest) (sym (append_assoc c.args.name.now (45 ∷ []) rest) ∙ e))

pub returns-clause-parts : goal.returns-clause-parts
returns-clause-parts c = parts _ _ c.in_ok-strip_prefix.field-0.now _ (stripped _ _ _ c.in_ok-strip_prefix.ensures.cases.0 c.in_ok-strip_prefix.ensures.cases.1) c.strip_prefix-2.ensures.cases

pub returns-clause-none : goal.returns-clause-none
returns-clause-none c = none _ _ c.in_ok-strip_prefix.field-0.now _ (stripped _ _ _ c.in_ok-strip_prefix.ensures.cases.0 c.in_ok-strip_prefix.ensures.cases.1) c.in_ok-strip_prefix.ensures.cases.1 c.strip_prefix-2.ensures.cases
