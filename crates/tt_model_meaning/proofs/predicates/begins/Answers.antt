use Rattle.std.proofs.Common.{refl}
use Rattle.tt_model_meaning.proofs.predicates.begins.Goals as goal

pub returns-in-Text : goal.returns-in-Text
returns-in-Text c =
    rw (c.truth_of_bool.ensures, c.in-Text.is, c.starts_with.ensures.value, c.as_bytes-bytes.ensures.value, c.as_str.ensures.value, c.as_bytes.ensures.value, c.as_str-in-Text.ensures.value) refl
