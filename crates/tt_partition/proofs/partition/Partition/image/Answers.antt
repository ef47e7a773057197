use Rattle.std.proofs.Common.{◌≡◌, ◌∙◌, ◌^◌, ◌<◌, subst}
use Rattle.std.specs.List.{AllByRecursion}
use Rattle.tt_partition.specs.Table.{IsPart}
use Rattle.tt_partition.specs.Image.{image_of}
use Rattle.tt_partition.specs.Sound.{table_in}
use Rattle.tt_partition.proofs.ImageLaws.{IsImage, table_taken}
use Rattle.tt_partition.proofs.partition.Partition.image.Goals as goal

is_image : (c : goal.After-bytes_fit) → IsImage c.self.inside.image.items (table_in c.self.inside.image.items)
is_image c = table_taken c.self.inside.image.items (table_in c.self.inside.image.items) (subst (AllByRecursion (λ b. b < 2 ^ 8)) c.as_slice-image.ensures.value c.bytes_fit.ensures) c.self.invariant.is_image

pub returns-clause-image : goal.returns-clause-image
returns-clause-image c = c.as_slice-image.ensures.value ∙ subst (λ t. c.self.inside.image.items ≡ image_of t) c.self.view_is (is_image c).0

pub returns-clause-part : goal.returns-clause-part
returns-clause-part c = subst IsPart c.self.view_is (is_image c).1
