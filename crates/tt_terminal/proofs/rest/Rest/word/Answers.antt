use Rattle.std.proofs.Common.{rules, ◌≡◌, ◌∷◌, subst, refl, All}
use Rattle.std.proofs.lemmas.List.Elements.{All-tail}
use Rattle.tt_terminal.specs.Reading.{IsOf}
use Rattle.tt_terminal.proofs.rest.Rest.word.Goals as goal

pub returns : goal.returns
returns c =
    let parts : c.args.self.tokens.now ≡ c.in_ok-first.first.now ∷ c.in_ok-first.tokens.now = search rules in
    record {
      first = c.in_ok-first.first.now;
      takes = record {
        same = refl;
        parts = parts;
        known = record {
          short = c.requires.short;
          each = All-tail (IsOf c.args.self.text.now) c.in_ok-first.first.now c.in_ok-first.tokens.now (subst (All (IsOf c.args.self.text.now)) parts c.requires.each);
        };
      };
      kind = search rules;
    }
