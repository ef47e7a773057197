use Rattle.std.proofs.Common.{None, ap, ◌∙◌, cond}
use Rattle.std.specs.HashMap.{get_by_text}
use Rattle.std.specs.Str.{bytes_eq}
use Rattle.std.proofs.lemmas.Map.Text.{hash_map_updates_text}
use Rattle.tt_names.proofs.dropped.forget.Goals as goal

pub returns : goal.returns
returns c = λ q.
    hash_map_updates_text c.as_str.result.now c.args.lists.now c.remove-list.new.self None c.remove-list.ensures.updates q
    ∙ ap (λ k. cond (bytes_eq k q) None (get_by_text c.args.lists.now q)) c.as_str.ensures.value
