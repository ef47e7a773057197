use Rattle.std.proofs.Common.{◌≡◌, ◌∙◌, List, [], length, subst, sym}
use Rattle.tt_value.specs.declared.value.Row.{Row}
use Rattle.tt_sql.specs.meaning.Changes.{Changes, insert_change}
use Rattle.tt_partition.specs.Cuts.{kinds_of}
use Rattle.tt_partition.specs.Fits.{FitSchema}
use Rattle.tt_change.proofs.PutIn.{puts_in}
use Rattle.tt_change.proofs.Written.{adds_them, counted, fit}
use Rattle.tt_change.proofs.insert.insert_written.Goals as goal

pub tuple_rows-requires : goal.tuple_rows-requires
tuple_rows-requires c = counted c.args.schema.now c.args.insert.now c.requires.accepted c.args.tuples.now c.requires.tuples

pub put_in-requires-clause-rows : goal.put_in-requires-clause-rows
put_in-requires-clause-rows c =
    subst (FitSchema c.args.schema.now) (sym (c.deref.ensures.value ∙ c.in_ok-rows.ensures))
    (fit c.args.schema.now c.args.insert.now c.requires.accepted c.args.tuples.now c.requires.tuples)

pub returns : goal.returns
returns c =
    let schema = c.args.schema.now in
    let change = insert_change schema [] [] c.args.insert.now in
    let adds = adds_them schema c.args.insert.now c.requires.accepted c.args.tuples.now c.requires.tuples in
    puts_in change (kinds_of schema) c.args.cap c.deref.result.now c.put_in.result
    (subst (λ (rows : List Row). change ≡ Changes [] rows (length rows)) (sym (c.deref.ensures.value ∙ c.in_ok-rows.ensures)) adds)
    c.put_in.ensures.gone c.put_in.ensures.added c.put_in.ensures.count
