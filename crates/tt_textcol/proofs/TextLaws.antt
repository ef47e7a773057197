-- The order of texts is total, and texts that tie are the same.
use Rattle.std.specs.Cmp.{IsTotalOrder}
use Rattle.std.specs.Cmp.Lexicographic.{nat_list_cmp_total}
use Rattle.std.proofs.lemmas.Map.Lookups.{exact_bytes}
use Rattle.tt_value.specs.values.Order.{TiesAreSame}
use Rattle.tt_textcol.specs.TextBody.{text_cmp}

pub text_total : IsTotalOrder text_cmp
text_total = nat_list_cmp_total

pub text_ties : TiesAreSame text_cmp
text_ties = exact_bytes
