use Rattle.std.proofs.Common.{rules, ◌≡◌, List, [], ◌∷◌, ◌++◌, take, sym, ap, ◌∙◌}
use Rattle.std.proofs.lemmas.List.{map-append, take_more}
use Rattle.tt_lex.specs.declared.Token.{Token}
use Rattle.std.proofs.lemmas.List.Elements.{All-push}
use Rattle.tt_terminal.specs.Reading.{IsOf}
use Rattle.tt_parse.proofs.lexed.lexed.Goals as goal

pub loop-token-preserved : goal.loop-token-preserved
loop-token-preserved c =
    let p : c.push.new.self.items ≡ c.loop-token.list.items ++ c.in_ok-lexed_of.field-0 ∷ [] = search rules in
    record {
      tokens = rw (p, map-append)
          (ap (λ (x : List Token). x ++ c.in_ok-lexed_of.field-0.token ∷ []) c.loop-token.invariant.tokens
          ∙ ap (λ (t : Token). take c.loop-token.token-index c.args.tokens.now ++ t ∷ []) c.in_ok-lexed_of.ensures.token
          ∙ sym (take_more c.args.tokens.now c.loop-token.token-index _ c.loop-token-test.true));
      kinds = rw p (All-push (IsOf c.args.text.now) c.loop-token.list.items c.in_ok-lexed_of.field-0 c.loop-token.invariant.kinds c.in_ok-lexed_of.ensures.kind);
    }
