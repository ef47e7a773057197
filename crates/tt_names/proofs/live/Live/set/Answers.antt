use Rattle.std.proofs.Common.{ap, sym, ◌∙◌, rules}
use Rattle.std.specs.FinMap as finite
use Rattle.tt_names.proofs.Seen.{seen-insert_at, get_none, not_absent}
use Rattle.tt_names.proofs.live.Live.set.Goals as goal

pub unreachable-requires : goal.unreachable-requires
unreachable-requires c =
    let name = c.args.name.now in
    not_absent c.args.self.now name
    (sym (ap (λ m. finite.get m name) c.self.view_is)
    ∙ get_none (λ table. table) c.self.inside.tables c.as_str.result.now name c.as_str.ensures.value c.in_default.ensures.value)
    c.requires

pub returns : goal.returns
returns c =
    seen-insert_at (λ table. table) c.self.inside.tables (c.get_mut.follows.lender c.args.table) c.as_str.result.now c.args.name.now c.args.table
    c.as_str.ensures.value ((c.get_mut.follows.holds c.args.table).3 (search rules))
    ∙ ap (λ m. finite.insert m c.args.name.now c.args.table) c.self.view_is
