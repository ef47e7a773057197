-- What is known of the tokens that are names and numbers.
use Rattle.std.proofs.Common.{◌≡◌, ℕ, ◌≤◌, true, List, ◌∷◌, length, All, refl, ap, subst, arith}
use Rattle.tt_lex.specs.declared.TokenKind.TheVariants as kinds
use Rattle.tt_lex.specs.Lexis.{text_of}
use Rattle.tt_value.specs.values.Texts.{IsPrintableAscii}
use Rattle.tt_sql.specs.grammar.Grammar.{is_of, Lexeme, Note}
use Rattle.tt_sql.specs.grammar.Combinators.{name, as_text}
use Rattle.tt_sql.specs.marks.Expressions.{name_marks}
use Rattle.tt_sql.specs.grammar.TokenKinds.{NAME, is_name, upper, lexeme, lexeme_of}
use Rattle.tt_value.specs.declared.name.Name.{Name}
use Rattle.tt_terminal.specs.declared.rest.Lexed.{Lexed}
use Rattle.tt_terminal.specs.declared.rest.Rest.{Rest}
use Rattle.tt_terminal.specs.KindNumbers.{kind_number}
use Rattle.tt_terminal.specs.Reading.{IsOf, IsName, Passes, seen_as}
use Rattle.tt_terminal.proofs.Words.{name_is_word, all_printable, word_bytes, name_length}
use Rattle.tt_terminal.proofs.Steps.{passes_token, passes_noted}

-- ---- names

module _ (text : List ℕ) (l : Lexed) (is : IsOf text l) (e : is_of NAME is_name (kind_number l.kind) ≡ true) where
  named : is_of NAME is_name (lexeme_of text l.token).kind ≡ true
  named = subst (λ x. is_of NAME is_name x ≡ true) is.right e

  pub name_word : l.token.kind ≡ kinds.Word
  name_word = name_is_word l.token.kind (text_of text l.token) l.token.start named

  pub name_printable : All IsPrintableAscii (upper (text_of text l.token))
  name_printable = all_printable (text_of text l.token) (word_bytes text l.token is.spelled name_word)

  pub name_few : length (text_of text l.token) ≤ 65535
  name_few =
      let p : is_of NAME is_name (lexeme kinds.Word (text_of text l.token) l.token.start).kind ≡ true = subst (λ k. is_of NAME is_name (lexeme k (text_of text l.token) l.token.start).kind ≡ true) name_word named in
      let q = name_length (text_of text l.token) l.token.start p in
      omega arith

  pub name_says : (seen_as text l).text ≡ upper (text_of text l.token)
  name_says = ap (λ k. (lexeme k (text_of text l.token) l.token.start).text) name_word

-- a name, as a part of a grammar
pub passes_name : {before : List Lexeme} {r : Rest} {n : Name} {s : Rest} → IsName r n s → Passes before name r (name_marks n) s
passes_name {before = before} {r = r} {n = n} {s = s} is = passes_token is.takes is.kind
    (subst (λ x. Passes (seen_as r.text.now is.first ∷ before) (Note as_text) s x s) (rw (is.text_is, is.place_is) refl)
    (passes_noted is.takes.known (λ done. refl)))
