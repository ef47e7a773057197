-- What the edge of the product says of the bytes that come in and go out, and of the faults that are met there.
-- Bytes are an `Option` of a list: `Some` of them where a source or a sink tells its bytes, and `None` where it does not.
use Rattle.std.specs.Prelude.{◌≡◌, ℕ, ◌+◌, ◌-◌, ◌^◌, ◌<◌, ◌≤◌, min, List, length, drop, ⊤, Some, None, Option, Result, MatchResult, IfSome, Contains}

-- a count of 64 bits, one higher; the greatest stays as it is
abbrev pub one_more : ℕ → ℕ
one_more count = min (count + 1) (2 ^ 64 - 1)

-- a count of faults rose by at least one, or stands at the end of its type
abbrev pub Rose : ℕ → ℕ → Type 0
Rose before now = one_more before ≤ now

-- the same of a count that something keeps
abbrev pub RoseIn : {S : Type 0} → (S → ℕ) → S → S → Type 0
RoseIn count old new = Rose (count old) (count new)

-- a count that something keeps rose by so many, or by more than so many
abbrev pub RoseBy : {S : Type 0} → (S → ℕ) → S → S → ℕ → Type 0
RoseBy count old new n = count new ≡ count old + n

abbrev pub RoseByMore : {S : Type 0} → (S → ℕ) → S → S → ℕ → Type 0
RoseByMore count old new most = most < count new - count old

-- a count of bytes rose by the number that an `Ok` gives, and stays at an `Err`
abbrev pub Counts : {E : Type 0} → ℕ → ℕ → Result ℕ E → Type 0
Counts before now result = MatchResult result (λ moved. now ≡ before + moved) (λ _. now ≡ before)

-- these are all bytes that were left, where it is told
abbrev pub AreAllOf : Option (List ℕ) → List ℕ → Type 0
AreAllOf left bytes = IfSome left (λ all. bytes ≡ all)

-- what is left now is what was left before without its first bytes, so many; where it is told, it stays told
abbrev pub LosesFront : Option (List ℕ) → Option (List ℕ) → ℕ → Type 0
LosesFront None now count = ⊤
LosesFront (Some before) None count = ⊥
LosesFront (Some before) (Some now) count = (count ≤ length before) × (now ≡ drop count before)

-- a source in memory: the bytes that it has left, how many it gave, the calls made of it,
-- the numbers of the calls that fail, the most bytes that one call gives, and its faults
pub record Input : Type 0 where
  pub left : List ℕ
  pub given : ℕ
  pub calls : ℕ
  pub failing : List ℕ
  pub limit : ℕ
  pub faults : ℕ

-- a sink in memory: the bytes that it holds, the calls made of it, the numbers of the calls that fail,
-- the most bytes that one call takes, and its faults
pub record Output : Type 0 where
  pub held : List ℕ
  pub calls : ℕ
  pub failing : List ℕ
  pub limit : ℕ
  pub faults : ℕ

-- the next call of the sink is one that fails
abbrev pub FailsNext : Output → Type 0
FailsNext sink = Contains sink.failing sink.calls

-- the sink has met one fault more
abbrev pub HasOneFaultMore : Output → Output → Type 0
HasOneFaultMore old new = new.faults ≡ one_more old.faults

-- a source over a reader: the bytes that it has left, where the reader tells them, how many it gave, and its faults
pub record Stream : Type 0 where
  pub left : Option (List ℕ)
  pub given : ℕ
  pub faults : ℕ

-- a sink over a writer: how many bytes it answered for, and its faults
pub record Tally : Type 0 where
  pub received : ℕ
  pub faults : ℕ
