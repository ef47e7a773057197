use Rattle.std.proofs.Common.{◌≡◌, Bool, true, false, ◌&&◌, if◌then◌else◌, Some, None, refl, ap}
use Rattle.std.specs.Option.{option_map}
use Rattle.tt_value.specs.declared.value.Value.TheVariants.{Date}
use Rattle.tt_plain.specs.StrictMeaning.{is_number}
use Rattle.tt_typer.proofs.laws.excluded_cases_have_no_meaning.Goals as goal

none_beside : {A : Type 0} (b : Bool) (x : A) → (if b && false then Some x else None) ≡ None
none_beside true x = refl
none_beside false x = refl

pub returns : goal.returns
returns c = record {
  sum = λ sign bytes v. (refl, none_beside (is_number v) _);
  product = λ bytes v. (refl, none_beside (is_number v) _);
  minus = λ bytes. refl;
  comparison = λ c n bytes. (refl, refl);
  day_and_number = λ c day n. (refl, refl);
  day_and_text = λ c day bytes. (refl, refl);
  beginning = λ front n. (refl, refl);
  date = λ bytes is. ap (option_map Date) is;
}
