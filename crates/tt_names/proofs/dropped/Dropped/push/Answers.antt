use Rattle.std.proofs.Common.{◌∷◌, ◌++◌, [], ap, sym, ◌∙◌, string_bytes, rules}
use Rattle.std.specs.FinMap as finite
use Rattle.tt_names.specs.ByName.{drops_of, seen}
use Rattle.tt_names.proofs.Seen.{seen-insert_at, seen-same, drops_at, drops_none, on_err}
use Rattle.tt_names.proofs.dropped.Dropped.push.Goals as goal

pub returns-in_err-insert-clause-err : goal.returns-in_err-insert-clause-err
returns-in_err-insert-clause-err c =
    on_err c.from_residual.result
    (seen-same (λ list. list.items) c.self.inside.lists (c.get_mut.follows.lender c.insert.new.self) c.as_str.result.now c.in-Some.list.now
    c.insert.new.self (sym c.in-Some.ensures.value) c.in_err-insert.ensures.items
    ((c.get_mut.follows.holds c.insert.new.self).3 (search rules))
    ∙ c.self.view_is)

pub returns-in-Some-clause-ok : goal.returns-in-Some-clause-ok
returns-in-Some-clause-ok c =
    let name = c.args.name.now in
    let old = c.self.inside.lists in
    seen-insert_at (λ list. list.items) old (c.get_mut.follows.lender c.insert.new.self) c.as_str.result.now name
    c.insert.new.self c.as_str.ensures.value ((c.get_mut.follows.holds c.insert.new.self).3 (search rules))
    ∙ ap (λ l. finite.insert (seen (λ list. list.items) old.entries) name l)
    (c.in_ok-insert.ensures.items
    ∙ ap (λ l. (c.args.table, c.args.moment) ∷ l)
    (drops_at (λ list. list.items) old c.as_str.result.now name c.in-Some.list.now c.as_str.ensures.value c.in-Some.ensures.value))
    ∙ ap (λ d. finite.insert d name ((c.args.table, c.args.moment) ∷ drops_of name d)) c.self.view_is

pub returns-clause-ok : goal.returns-clause-ok
returns-clause-ok c =
    let name = c.args.name.now in
    let old = c.self.inside.lists in
    seen-insert_at (λ list. list.items) c.get_mut.follows.lender-at-none c.insert-2.new.self (string_bytes c.in_ok-key.key) name
    c.push.new.self (c.in_ok-key.ensures.ok ∙ c.as_str-2.ensures.value) c.in_ok-insert-2.ensures.updates
    ∙ ap (λ m. finite.insert (seen (λ list. list.items) m.entries) name c.push.new.self.items) c.get_mut.follows.holds-at-none
    ∙ ap (λ l. finite.insert (seen (λ list. list.items) old.entries) name l)
    (c.in_ok-push.ensures.items ∙ ap (λ l. l ++ (c.args.table, c.args.moment) ∷ []) c.new-list.ensures.items
    ∙ ap (λ l. (c.args.table, c.args.moment) ∷ l)
    (drops_none (λ list. list.items) old c.as_str.result.now name c.as_str.ensures.value c.in_default.ensures.value))
    ∙ ap (λ d. finite.insert d name ((c.args.table, c.args.moment) ∷ drops_of name d)) c.self.view_is
