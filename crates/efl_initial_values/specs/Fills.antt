-- Ranges of places that were filled, in memory: of each owner's number, the ends of the ranges by their first places.
use Rattle.std.specs.Prelude.{◌≡◌, ◌<◌, ◌≤◌, ◌+◌, ℕ, nat_eq, Bool, true, false, ◌&&◌, List, [], ◌∷◌, Option, Some, None, ⊤, max, if◌then◌else◌}
use Rattle.std.specs.List.{list_any}
use Rattle.std.specs.BTreeMap.{BTreeMap, get}
use Rattle.std.specs.declared.cmp.Ordering.{Ordering}
use Rattle.std.specs.Ordering.{nat_cmp, ordering_then}
use Rattle.rule_table.specs.Words.{is_some_and}
use Rattle.efl_types.specs.Presets.{Owner, Filled, same_owner}
use Rattle.efl_initial_values.specs.declared.fills.Range.{Range}

abbrev pub Ends : Type 0
Ends = ℕ → ℕ → Option ℕ

abbrev pub by_both : ℕ × ℕ → ℕ × ℕ → Ordering
by_both x y = ordering_then (nat_cmp x.0 y.0) (nat_cmp x.1 y.1)

abbrev pub ends_of : BTreeMap (ℕ × ℕ) ℕ → Ends
ends_of table n a = get by_both table (n, a)

-- the codes of owners are equal where the owners are the same
abbrev pub AreCodes : (Owner → Option ℕ) → Type 0
AreCodes code = (a b : Owner) (m n : ℕ) → code a ≡ Some m → code b ≡ Some n → same_owner a b ≡ nat_eq m n

-- ---- which ranges were noted ----

-- one that is at least as long begins at the same place
abbrev pub IsWithin : Ends → ℕ → ℕ → ℕ → Type 0
IsWithin ends n a e = (d : ℕ) × (ends n a ≡ Some d) × (e ≤ d)

pub record IsNoted (code : Owner → Option ℕ) (ends : Ends) (f : Filled) : Type 0 where
  pub number : ℕ
  pub is : code f.owner ≡ Some number
  pub within : IsWithin ends number f.first (f.first + f.many)

abbrev pub AreWithin : (Owner → Option ℕ) → Ends → List Filled → Type 0
AreWithin code ends [] = ⊤
AreWithin code ends (f ∷ fs) = IsNoted code ends f × AreWithin code ends fs

abbrev pub is_range : (Owner → Option ℕ) → ℕ → ℕ → ℕ → Filled → Bool
is_range code n a e f = is_some_and (λ m. nat_eq m n) (code f.owner) && (nat_eq f.first a && nat_eq (f.first + f.many) e)

-- the ranges of an owner do not meet
abbrev pub AreApart : Ends → Type 0
AreApart ends = (n a b d e : ℕ) → ends n a ≡ Some d → ends n b ≡ Some e → a < b → d ≤ b

abbrev pub AreForward : Ends → Type 0
AreForward ends = (n a e : ℕ) → ends n a ≡ Some e → a ≤ e

pub record Notes (code : Owner → Option ℕ) (ends : Ends) (fs : List Filled) : Type 0 where
  pub within : AreWithin code ends fs
  pub known : (n a e : ℕ) → ends n a ≡ Some e → list_any (is_range code n a e) fs ≡ true
  pub apart : AreApart ends
  pub forward : AreForward ends

-- ---- a range more ----

-- the last one of an owner that begins before a place
pub record IsLast (ends : Ends) (n place e : ℕ) : Type 0 where
  pub first : ℕ
  pub is : ends n first ≡ Some e
  pub before : first < place
  pub last : (b d : ℕ) → ends n b ≡ Some d → b < place → b ≤ first

abbrev pub LastBefore : Ends → ℕ → ℕ → Option ℕ → Type 0
LastBefore ends n place None = (b d : ℕ) → ends n b ≡ Some d → place ≤ b
LastBefore ends n place (Some e) = IsLast ends n place e

-- those that begin before its end end before it
abbrev pub IsClear : Ends → ℕ → ℕ → ℕ → Type 0
IsClear ends n first end = (b d : ℕ) → ends n b ≡ Some d → b < end → d ≤ first

pub record IsMet (ends : Ends) (n first end : ℕ) : Type 0 where
  pub place : ℕ
  pub last : ℕ
  pub is : ends n place ≡ Some last
  pub before : place < end
  pub behind : first < last

abbrev pub Meets : Ends → ℕ → ℕ → ℕ → Bool → Type 0
Meets ends n first end true = IsMet ends n first end
Meets ends n first end false = AreApart ends → AreForward ends → IsClear ends n first end

-- the end of a range comes where no longer one begins at the same place
abbrev pub longer : Option ℕ → ℕ → Option ℕ
longer None e = Some e
longer (Some d) e = Some (max d e)

abbrev pub Extends : Ends → ℕ → ℕ → ℕ → Ends → Type 0
Extends old n first end new = (m a : ℕ) → new m a ≡ (if nat_eq n m && nat_eq first a then longer (old n first) end else old m a)

-- ---- the range of a preset ----

abbrev pub IsShort : Option Range → Type 0
IsShort None = ⊤
IsShort (Some r) = r.first + r.many < 65536

-- a range in memory, of this owner
abbrev pub range_of : Owner → Option Range → List Filled
range_of o None = []
range_of o (Some r) = record { owner = o; first = r.first; many = r.many } ∷ []
