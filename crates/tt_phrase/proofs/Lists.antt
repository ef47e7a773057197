-- Readers of lists whose parts have commas between them.
use Rattle.std.proofs.Common.{◌≡◌, ℕ, ◌≤◌, false, ◌==◌, List, [], ◌∷◌, ◌++◌, map, length, refl, sym, ap, ◌∙◌, subst, append_assoc, arith}
use Rattle.tt_sql.specs.grammar.Grammar.{Mark, Way, Gram, Many}
use Rattle.tt_sql.specs.grammar.Combinators.{one, listed, ◌▸◌}
use Rattle.tt_sql.specs.grammar.TokenKinds.{COMMA}
use Rattle.tt_sql.specs.marks.Expressions.{repeated, listed_marks}
use Rattle.tt_sql.specs.trees.Lists.{Each, IsListed}
use Rattle.tt_sql.specs.marks.Queries.{maybe_listed}
use Rattle.tt_terminal.specs.declared.rest.Rest.{Rest}
use Rattle.tt_terminal.specs.Reading.{Passes, Fails, IsKnown, IsWord, first_kind}
use Rattle.tt_phrase.proofs.GivenTrees.{each_push}
use Rattle.tt_terminal.proofs.Steps.{passes_both, passes_word, passes_more, passes_enough, stops_first, stops_second, stops_word, stops_more, stops_later, word_kind_is}

-- what further parts note
abbrev pub more_marks : List (List Mark) → List Mark
more_marks [] = []
more_marks (m ∷ ms) = Way 1 ∷ (m ++ more_marks ms)

more_end : (ms : List (List Mark)) → more_marks ms ++ Way 0 ∷ [] ≡ repeated ms
more_end [] = refl
more_end (m ∷ ms) = ap (λ (x : List Mark). Way 1 ∷ x) (append_assoc m (more_marks ms) (Way 0 ∷ []) ∙ ap (λ (x : List Mark). m ++ x) (more_end ms))

more_last : (ms : List (List Mark)) (n o : List Mark) → more_marks (ms ++ n ∷ []) ++ o ≡ more_marks ms ++ Way 1 ∷ (n ++ o)
more_last [] n o = ap (λ (x : List Mark). Way 1 ∷ x) (append_assoc n [] o)
more_last (m ∷ ms) n o = ap (λ (x : List Mark). Way 1 ∷ x) (append_assoc m (more_marks (ms ++ n ∷ [])) o ∙ ap (λ (x : List Mark). m ++ x) (more_last ms n o) ∙ sym (append_assoc m (more_marks ms) (Way 1 ∷ (n ++ o))))

pub map_last : {T : Type 0} (f : T → List Mark) (xs : List T) (x : T) → map f (xs ++ x ∷ []) ≡ map f xs ++ f x ∷ []
map_last f [] x = refl
map_last f (y ∷ xs) x = ap (λ (ms : List (List Mark)). f y ∷ ms) (map_last f xs x)

-- So far these parts of a list were read.
pub record Listing (g : Gram) (r : Rest) (ms : List (List Mark)) (rest : Rest) : Type 0 where
  pub first : List Mark
  pub others : List (List Mark)
  pub parts : ms ≡ first ∷ others
  pub known : IsKnown rest
  pub shorter : length rest.tokens.now ≤ length r.tokens.now
  pub goes : (n : List Mark) (u : Rest) → Passes [] (Many (one COMMA ▸ g)) rest n u → Passes [] (listed g) r (first ++ (more_marks others ++ n)) u
  pub halts : (at : ℕ) → Fails [] (Many (one COMMA ▸ g)) rest at → Fails [] (listed g) r at

pub list_begins : {g : Gram} {r : Rest} {m : List Mark} {s : Rest} → Passes [] g r m s → Listing g r (m ∷ []) s
list_begins {g = g} {r = r} {m = m} {s = s} p = record {
  first = m;
  others = [];
  parts = refl;
  known = p.known;
  shorter = p.shorter;
  goes = λ n u a. passes_both p a;
  halts = λ at a. stops_second p a;
}

pub list_goes_on : {g : Gram} {r : Rest} {ms : List (List Mark)} {s t : Rest} {n : List Mark} {u : Rest} → Listing g r ms s → IsWord COMMA s t → Passes [] g t n u → Listing g r (ms ++ n ∷ []) u
list_goes_on {g = g} {r = r} {ms = ms} {s = s} {t = t} {n = n} {u = u} l w p =
    let q : Passes [] (one COMMA ▸ g) s n u = passes_word w p in
    record {
      first = l.first;
      others = l.others ++ n ∷ [];
      parts = ap (λ (x : List (List Mark)). x ++ n ∷ []) l.parts;
      known = p.known;
      shorter = let a = q.shorter in let b = l.shorter in omega arith;
      goes = λ o v a. subst (λ (x : List Mark). Passes [] (listed g) r (l.first ++ x) v) (sym (more_last l.others n o)) (l.goes (Way 1 ∷ (n ++ o)) v (passes_more (word_kind_is w) refl refl q a));
      halts = λ at a. l.halts at (stops_later (word_kind_is w) refl refl q a);
    }

pub list_fails : {g : Gram} {r : Rest} {ms : List (List Mark)} {s t : Rest} {at : ℕ} → Listing g r ms s → IsWord COMMA s t → Fails [] g t at → Fails [] (listed g) r at
list_fails {g = g} {r = r} {ms = ms} {s = s} {t = t} {at = at} l w f = l.halts at (stops_more (word_kind_is w) refl refl (stops_word w f))

-- Behind a comma, or in front of all: the next part is still to be read.
pub record Pending (g : Gram) (r : Rest) (ms : List (List Mark)) (rest : Rest) : Type 0 where
  pub known : IsKnown rest
  pub goes : (n : List Mark) (u : Rest) → Passes [] g rest n u → Listing g r (ms ++ n ∷ []) u
  pub halts : (at : ℕ) → Fails [] g rest at → Fails [] (listed g) r at

pub pending_begins : {g : Gram} {r : Rest} → IsKnown r → Pending g r [] r
pending_begins known = record { known = known; goes = λ n u p. list_begins p; halts = λ at f. stops_first f }

pub pending_more : {g : Gram} {r : Rest} {ms : List (List Mark)} {s t : Rest} → Listing g r ms s → IsWord COMMA s t → Pending g r ms t
pending_more l w = record { known = w.takes.known; goes = λ n u p. list_goes_on l w p; halts = λ at f. list_fails l w f }

-- the next part is read
pub list_next : {T : Type 0} {g : Gram} {r : Rest} {s u : Rest} (f : T → List Mark) (xs : List T) (x : T) → Pending g r (map f xs) s → Passes [] g s (f x) u → Listing g r (map f (xs ++ x ∷ [])) u
list_next {g = g} {r = r} {u = u} f xs x l p = subst (λ (ms : List (List Mark)). Listing g r ms u) (sym (map_last f xs x)) (l.goes (f x) u p)

pub list_ends : {g : Gram} {r : Rest} {ms : List (List Mark)} {s : Rest} → Listing g r ms s → (first_kind s == COMMA) ≡ false → Passes [] (listed g) r (listed_marks ms) s
list_ends {g = g} {r = r} {ms = ms} {s = s} l e =
    subst (λ (x : List Mark). Passes [] (listed g) r x s) (ap (λ (x : List Mark). l.first ++ x) (more_end l.others) ∙ ap listed_marks (sym l.parts))
    (l.goes (Way 0 ∷ []) s (passes_enough l.known (rw e refl)))

-- a list that may be left out, and is not
pub filled_marks : {T : Type 0} (f : T → List Mark) (xs : List T) → 1 ≤ length xs → maybe_listed (map f xs) ≡ listed_marks (map f xs) ++ Way 1 ∷ []
filled_marks f [] p = absurd (omega arith)
filled_marks f (x ∷ xs) p = refl

-- all of these, and one more
pub listed_end : {A : Type 0} (P : A → Type 0) (xs : List A) (x : A) → Each P xs → P x → IsListed P (xs ++ x ∷ [])
listed_end P [] x each is = (is, tt)
listed_end P (y ∷ xs) x each is = (each.0, each_push P xs (xs ++ x ∷ []) x refl each.1 is)
