use Rattle.std.proofs.Common.{rules}
use Rattle.std.proofs.lemmas.Fn.{always_returns_same}
use Rattle.tt_marks.specs.Marks.{mark_cmp}
use Rattle.tt_marks.proofs.Searching.{place_found, gap_found}
use Rattle.tt_marks.proofs.sorted.search.Goals as goal

pub returns-clause-found : goal.returns-clause-found
returns-clause-found c =
    place_found c.args.wanted.now c.args.marks.now _ c.binary_search_by.ensures.bound
    (c.binary_search_by.ensures.position (λ m. mark_cmp m c.args.wanted.now) (always_returns_same _ _ _ (λ a r f' k. search rules)))

pub returns-clause-missing : goal.returns-clause-missing
returns-clause-missing c =
    gap_found c.args.wanted.now c.args.marks.now _ c.requires c.binary_search_by.ensures.bound
    (c.binary_search_by.ensures.position (λ m. mark_cmp m c.args.wanted.now) (always_returns_same _ _ _ (λ a r f' k. search rules)))
