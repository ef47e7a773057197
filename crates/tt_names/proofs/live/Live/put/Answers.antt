use Rattle.std.proofs.Common.{ap, ◌∙◌, string_bytes}
use Rattle.std.specs.FinMap as finite
use Rattle.tt_names.proofs.Seen.{seen-insert_at}
use Rattle.tt_names.proofs.live.Live.put.Goals as goal

pub returns-clause-ok : goal.returns-clause-ok
returns-clause-ok c =
    seen-insert_at (λ table. table) c.self.inside.tables c.insert.new.self (string_bytes c.in_ok-key.key) c.args.name.now c.args.table
    (c.in_ok-key.ensures.ok ∙ c.as_str.ensures.value) c.in_ok-insert.ensures.updates
    ∙ ap (λ m. finite.insert m c.args.name.now c.args.table) c.self.view_is
