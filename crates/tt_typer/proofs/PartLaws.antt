-- What is found of parts with which is calculated.
use Rattle.std.proofs.Common.{◌≡◌, ◌≢◌, subst, Bool, true, false, ℕ, List, [], ◌∷◌, ◌++◌, map, Option, Some, refl, ap, sym, ◌∙◌}
use Rattle.tt_value.specs.declared.value.Kind.TheVariants as kinds
use Rattle.tt_value.specs.declared.expression.Expr.{Expr, out-Expr}
use Rattle.tt_value.specs.declared.expression.Term.{Term}
use Rattle.tt_value.specs.declared.expression.Addend.{Addend}
use Rattle.tt_value.specs.trees.Scope.{Scope}
use Rattle.tt_plain.specs.Places.{leftmost, each}
use Rattle.tt_plain.specs.Kinds.{fits, unless}
use Rattle.tt_plain.specs.Expressions as spec
use Rattle.tt_plain.specs.Expressions.{calculated, joined, part_of, part_of_term, part_of_factor}
use Rattle.tt_typer.specs.declared.parts.Part.{Part}
use Rattle.tt_typer.specs.FoundParts.{as_found, calculated_found}
use Rattle.tt_typer.proofs.Leftmost.{leftmost_append, each_map}
use Rattle.tt_typer.proofs.Folds.{part_of_out, part_of_term_out}

pub calculated_as_found : (p : spec.Part) → calculated_found (as_found p) ≡ leftmost (calculated p)
calculated_as_found p = sym (leftmost_append (unless (fits (Some kinds.Int) p.kind) p.place) p.misfits)

abbrev pub several : spec.Part → List ℕ → spec.Part
several p later = record { place = p.place; kind = Some kinds.Int; misfits = calculated p ++ later }

joined_more : {A : Type 0} (f : A → spec.Part) (p : spec.Part) (xs : List A) → xs ≢ [] → joined p (map f xs) ≡ several p (each (λ x. calculated (f x)) xs)
joined_more f p [] some = absurd (some refl)
joined_more f p (x ∷ xs) some = ap (λ later. several p (calculated (f x) ++ later)) (each_map calculated f xs)

pub expr_of_many : (scope : Scope) (e : Expr) → (out-Expr e).others ≢ [] → part_of scope e ≡ several (part_of_term scope (out-Expr e).first) (each (λ (a : Addend). calculated (part_of_term scope a.term)) (out-Expr e).others)
expr_of_many scope e some = part_of_out scope e ∙ joined_more (λ (a : Addend). part_of_term scope a.term) (part_of_term scope (out-Expr e).first) (out-Expr e).others some

pub expr_of_one : (scope : Scope) (e : Expr) → (out-Expr e).others ≡ [] → part_of scope e ≡ part_of_term scope (out-Expr e).first
expr_of_one scope e none = part_of_out scope e ∙ ap (λ (xs : List Addend). joined (part_of_term scope (out-Expr e).first) (map (λ (a : Addend). part_of_term scope a.term) xs)) none

pub term_of_many : (scope : Scope) (t : Term) → t.others ≢ [] → part_of_term scope t ≡ several (part_of_factor scope t.first) (each (λ f. calculated (part_of_factor scope f)) t.others)
term_of_many scope t some = part_of_term_out scope t ∙ joined_more (part_of_factor scope) (part_of_factor scope t.first) t.others some

pub term_of_one : (scope : Scope) (t : Term) → t.others ≡ [] → part_of_term scope t ≡ part_of_factor scope t.first
term_of_one scope t none = part_of_term_out scope t ∙ ap (λ xs. joined (part_of_factor scope t.first) (map (part_of_factor scope) xs)) none

-- the three fields of what is found
pub several_found : (whole p : spec.Part) (later : List ℕ) (first : Part) (misfit : Option ℕ) → whole ≡ several p later → first ≡ as_found p → misfit ≡ leftmost (calculated p ++ later) → record { place = first.place; kind = Some kinds.Int; misfit = misfit } ≡ as_found whole
several_found whole p later first misfit is one found = rw (is, one, found) refl

abbrev is_no : Bool → Type 0
is_no true = ⊥
is_no false = Unit {0}

pub false_true : false ≡ true → ⊥
false_true h = subst is_no h tt
