use Rattle.std.proofs.Common.{◌≡◌, ◌++◌, ◌∷◌, take}
use Rattle.std.specs.Prelude.{codes}
use Rattle.std.specs.List.{flat_map}
use Rattle.tt_print.specs.text.Words.{spaced, name_words}
use Rattle.tt_print.proofs.words.write_names.Given as goal

abbrev pub invariant-loop-name : goal.invariant-loop-name
invariant-loop-name l = l.out.items ≡ l.initial.out.items ++ flat_map (λ name. spaced (codes "," ∷ name_words name)) (take l.name-index l.others)
