use Rattle.tt_partition.proofs.ImageLaws.{only_image, again_image}
use Rattle.tt_partition.proofs.partition.Partition.from_image.Goals as goal

pub returns-clause-again : goal.returns-clause-again
returns-clause-again c = λ table is e. again_image c.args.bytes.now (λ p. p) c.read_partition.result table c.read_partition.ensures is e

pub returns-clause-only : goal.returns-clause-only
returns-clause-only c = only_image c.args.bytes.now (λ p. p) c.read_partition.result c.bytes_fit.ensures c.read_partition.ensures
