-- The words of a predicate, level by level.
use Rattle.std.proofs.Common.{◌≡◌, ◌∷◌, ◌++◌, ap, ◌∙◌}
use Rattle.std.specs.Prelude.{codes}
use Rattle.std.specs.List.{flat_map}
use Rattle.tt_value.specs.declared.predicate.Predicate.{Predicate, out-Predicate, fold_out-Predicate}
use Rattle.tt_value.specs.declared.predicate.Conjunction.{Conjunction, fold_out-Conjunction}
use Rattle.tt_print.specs.text.Words.{Words}
use Rattle.tt_print.specs.text.Predicates.{predicate_words, conjunction_words, unit_words, predicate_level, conjunction_level, unit_level}
use Rattle.tt_print.proofs.text.Spacing.{flat_map-map}

pub predicate_words-out : (p : Predicate) → predicate_words p ≡ conjunction_words (out-Predicate p).first ++ flat_map (λ conjunction. codes "OR" ∷ conjunction_words conjunction) (out-Predicate p).others
predicate_words-out p =
    fold_out-Predicate Words Words Words unit_level conjunction_level predicate_level p
    ∙ ap (λ others. conjunction_words (out-Predicate p).first ++ others) (flat_map-map (λ conjunction. codes "OR" ∷ conjunction) conjunction_words (out-Predicate p).others)

pub conjunction_words-out : (c : Conjunction) → conjunction_words c ≡ unit_words c.first ++ flat_map (λ part. codes "AND" ∷ unit_words part) c.others
conjunction_words-out c =
    fold_out-Conjunction Words Words Words unit_level conjunction_level predicate_level c
    ∙ ap (λ others. unit_words c.first ++ others) (flat_map-map (λ part. codes "AND" ∷ part) unit_words c.others)
