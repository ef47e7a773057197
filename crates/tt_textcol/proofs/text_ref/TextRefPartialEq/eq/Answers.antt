use Rattle.std.proofs.Common.{◌∙◌, sym, ap}
use Rattle.std.specs.Str.{bytes_eq}
use Rattle.std.proofs.lemmas.Map.Text.{is_eq-slice_cmp}
use Rattle.tt_textcol.proofs.text_ref.TextRefPartialEq.eq.Goals as goal

pub returns : goal.returns
returns c =
    c.eq.ensures ∙ ap (λ t. bytes_eq t c.as_bytes-2.result.now) (c.as_bytes.ensures.value ∙ c.self.view_is) ∙ ap (λ t. bytes_eq c.args.self.now t) (c.as_bytes-2.ensures.value ∙ c.other.view_is) ∙ sym (is_eq-slice_cmp c.args.self.now c.args.other.now)
