use Rattle.std.proofs.Common.{◌≡◌, None, ap, subst, sym, ◌∙◌, rules}
use Rattle.std.specs.FinMap as finite
use Rattle.tt_names.specs.ByName.{drops_of, put_drops, without_table, seen}
use Rattle.tt_names.proofs.Seen.{seen-insert_at, seen-remove, drops_at, get_none, take_none, remove-insert, put_drops-empty, put_drops-some, no_items, some_items}
use Rattle.tt_names.proofs.dropped.Dropped.take_out.Goals as goal

pub returns-in_default : goal.returns-in_default
returns-in_default c =
    let name = c.args.name.now in
    ap (λ m. seen (λ list. list.items) m.entries) c.get_mut.follows.holds-at-none ∙ c.self.view_is
    ∙ sym (take_none c.args.self.now name c.args.table
    (subst (λ d. finite.get d name ≡ None) c.self.view_is
    (get_none (λ list. list.items) c.self.inside.lists c.as_str.result.now name c.as_str.ensures.value c.in_default.ensures.value)))

pub returns-then-is_empty : goal.returns-then-is_empty
returns-then-is_empty c =
    let name = c.args.name.now in
    let old = c.self.inside.lists in
    let left = c.retain_others.new.list in
    let is = c.retain_others.ensures
    ∙ ap (without_table c.args.table)
    (drops_at (λ list. list.items) old c.as_str.result.now name c.in-Some.list.now c.as_str.ensures.value c.in-Some.ensures.value) in
    let none = no_items left.items left.len left.ok.0 (sym c.is_empty.ensures ∙ c.if-is_empty.true) in
    seen-remove (λ list. list.items) (c.get_mut.follows.lender left) c.forget.new.lists name c.forget.ensures
    ∙ ap (λ d. finite.remove d name)
    (seen-insert_at (λ list. list.items) old (c.get_mut.follows.lender left) c.as_str.result.now name left
    c.as_str.ensures.value ((c.get_mut.follows.holds left).3 (search rules)))
    ∙ remove-insert (seen (λ list. list.items) old.entries) name left.items
    ∙ put_drops-empty name _ (seen (λ list. list.items) old.entries) (sym is ∙ none)
    ∙ ap (λ d. put_drops name (without_table c.args.table (drops_of name d)) d) c.self.view_is

pub returns-else-is_empty : goal.returns-else-is_empty
returns-else-is_empty c =
    let name = c.args.name.now in
    let old = c.self.inside.lists in
    let left = c.retain_others.new.list in
    let is = c.retain_others.ensures
    ∙ ap (without_table c.args.table)
    (drops_at (λ list. list.items) old c.as_str.result.now name c.in-Some.list.now c.as_str.ensures.value c.in-Some.ensures.value) in
    let some = some_items left.items left.len left.ok.0 (sym c.is_empty.ensures ∙ c.if-is_empty.false) in
    seen-insert_at (λ list. list.items) old (c.get_mut.follows.lender left) c.as_str.result.now name left
    c.as_str.ensures.value ((c.get_mut.follows.holds left).3 (search rules))
    ∙ put_drops-some name left.items (seen (λ list. list.items) old.entries) some
    ∙ ap (λ l. put_drops name l (seen (λ list. list.items) old.entries)) is
    ∙ ap (λ d. put_drops name (without_table c.args.table (drops_of name d)) d) c.self.view_is
