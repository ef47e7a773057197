-- What stands at the front: of tokens, and of parts of a grammar.
use Rattle.std.specs.Prelude.{ℕ, Bool, true, false, not, ◌&&◌, ◌||◌, List, [], ◌∷◌}
use Rattle.tt_sql.specs.grammar.Grammar.{Lexeme, Gram, Tok, Deep, Note, Both, Either, Many, Again, is_of}
use Rattle.tt_sql.specs.grammar.TokenKinds.{kind_count}

-- a part takes at least one token
abbrev pub solid : Gram → Bool
solid (Tok k more) = true
solid (Deep kinds) = true
solid (Note f) = false
solid (Both g h) = solid g || solid h
solid (Either g h) = solid g && solid h
solid (Many g) = false
solid (Again r d) = true

-- it may begin with this kind, where productions begin with any kind or with none
abbrev pub begins : Bool → Gram → ℕ → Bool
begins any (Tok k more) j = is_of k more j
begins any (Deep kinds) j = kinds j
begins any (Note f) j = false
begins any (Both g h) j = begins any g j || (not (solid g) && begins any h j)
begins any (Either g h) j = begins any g j || begins any h j
begins any (Many g) j = begins any g j
begins any (Again r d) j = any

-- the kind of the first token, or that of none
abbrev pub front_kind : List Lexeme → ℕ
front_kind [] = kind_count
front_kind (t ∷ ts) = t.kind

-- where the first token stands, or where the text ends
abbrev pub front_place : ℕ → List Lexeme → ℕ
front_place end [] = end
front_place end (t ∷ ts) = t.place
