-- A run whose input has a record that is too long never comes to the end of its input: it takes that record before, and is trapped.
use Rattle.std.proofs.Common.{◌≡◌, ℕ, zero, suc, ◌+◌, ◌*◌, ◌<◌, ◌≤◌, ℤ, pos, negsuc, Bool, true, false, ◌&&◌, List, [], ◌∷◌, ◌++◌, length, map, ◌⊎◌, inl, inr, refl, sym, ◌∙◌, ap, subst, arith, Option, Some, None, ◌==◌, nat_lt, slice_get}
use Rattle.std.specs.Prelude.{Result, Ok, Err, if◌then◌else◌, nat_le, nat_eq, replicate, int_le, int_lt, unsigned_abs, int_div, int_rem, ◌+ℤ◌, ◌-ℤ◌, ◌*ℤ◌}
use Rattle.std.specs.Int.{int_pow}
use Rattle.std.proofs.lemmas.Bool.Decides.{nat_tests}
use Rattle.ground.specs.declared.place.Place.{Place}
use Rattle.ground.specs.declared.trap.Trap.{Trap}
use Rattle.ground.specs.declared.trap.Trap.TheVariants.{EndOfInput, LongRecord, BadCharacter}
use Rattle.ground.specs.declared.value.Kind.{Kind}
use Rattle.ground.specs.declared.value.Kind.TheVariants.{Integer, Logical}
use Rattle.ground.specs.Arithmetic.{in_range, greatest, sum, difference, product, quotient, remainder, power}
use Rattle.ground.specs.Content.{Content, Nothing, Whole, Truth}
use Rattle.f66_tree.specs.declared.expression.Operator.{Operator}
use Rattle.f66_tree.specs.declared.expression.Operator.TheVariants.{Add, Sub, Mul, Div, Power, Lt, Le, Eq, Ne, Ge, Gt, And, Or}
use Rattle.f66_tree.specs.declared.editing.EditKind.TheVariants as edits
use Rattle.f66_tree.specs.declared.editing.Mark.{Mark}
use Rattle.f66_tree.specs.declared.editing.Mark.TheVariants.{Between, Due, Complete, Over}
use Rattle.f66_tree.specs.declared.editing.Way.{Way}
use Rattle.f66_tree.specs.declared.editing.Way.TheVariants.{Reading, Writing}
use Rattle.f66_tree.specs.Fields.{Step, Takes, Blanks, Chars, Slash, Fields, has_item}
use Rattle.f66_tree.specs.Fielded as fielded
use Rattle.f66_tree.specs.Turns.{Hand, ◌>>=◌, extended, blanked, lettered, suits, hand_at, line_in_hand, put_text, put_whole, put_truth, put_letter, with_letter, take_whole, take_truth, take_letter, width_of}
use Rattle.f66_tree.specs.Editing.{Files, Break, with_records, OnRecords, mismatch, next_record, exchanged, seek, cycled, to_item, shut, seek_end, to_end}
use Rattle.f66_tree.specs.World.{Record, Tape, World, End, Ended, Trapped, Out, Gives, Halts, bind, Try, Yields, Traps, Fails, then_try, lifted, Move, Moves, Breaks, Misses, settle, choose, take_from, take_one, moving, files_of, tape_of, Store, Shown}
use Rattle.f66_tree.specs.Records.{tape_placed, read_begun, due, put_by, handed, put, take_by, take, closed}
use Rattle.f66_tree.specs.Evaluation.{whole, on_whole, on_truth, operate, opposite, denied, truth_in, Intrinsic, Iabs, Mod, Isign, Idim, Max0, Min0, intrinsic, excess, farthest, asked, distance}
use Rattle.f66_tree.specs.Statements.{fit_loop_in, times, extent, taped, taken_content, on_unit, unit_for, opened_by, LoopParameters}
use Rattle.stack_code.specs.Instructions as i
use Rattle.stack_code.specs.Instructions.{Instruction}
use Rattle.stack_code.specs.StackMachine.{Spot, Entry, Val, At, Core, Program, on_value, on_spot, take_values, take_spots, load, store, shift, dummy, pushed, pushed_spot, changed, loop_start, loop_turn, loop_in, jump_sign, nth, target_at, back_to, known, intrinsic_by, transfer, edited, row, act, step, exec, start, first_world, Runs, unit_of, stopped, Caller}
use Rattle.ports.specs.Records.{got_records, cut_line, Cut, cut, with_front, without_return}

-- ---- records ----

-- one of them is too long
abbrev pub HasLong : List Record → Type 0
HasLong [] = ⊥
HasLong (r ∷ rs) = (65535 < length r) ⊎ HasLong rs

pub long_behind : (xs ys : List Record) → HasLong ys → HasLong (xs ++ ys)
long_behind [] ys h = h
long_behind (x ∷ xs) ys h = inr (long_behind xs ys h)

-- ---- traps that are not the end of the input ----

abbrev IsOther : Trap → Type 0
IsOther EndOfInput = ⊥
IsOther _ = Unit {0}

abbrev Clean : {A : Type 0} → Result A Trap → Type 0
Clean (Ok a) = Unit {0}
Clean (Err e) = IsOther e

abbrev CleanTry : {A : Type 0} → Try A → Type 0
CleanTry (Yields a) = Unit {0}
CleanTry (Traps e) = IsOther e
CleanTry Fails = Unit {0}

clean_then : {A B : Type 0} → (r : Result A Trap) (go : A → Result B Trap) → Clean r → ((a : A) → Clean (go a)) → Clean (r >>= go)
clean_then (Ok a) go h k = k a
clean_then (Err e) go h k = h

try_then : {A B : Type 0} → (t : Try A) (go : A → Try B) → CleanTry t → ((a : A) → CleanTry (go a)) → CleanTry (then_try t go)
try_then (Yields a) go h k = k a
try_then (Traps e) go h k = h
try_then Fails go h k = tt

lifted_clean : {A : Type 0} → (r : Result A Trap) → Clean r → CleanTry (lifted r)
lifted_clean (Ok a) h = tt
lifted_clean (Err e) h = h

clean_if : {A : Type 0} → (b : Bool) (x y : Result A Trap) → Clean x → Clean y → Clean (if b then x else y)
clean_if true x y h k = h
clean_if false x y h k = k

try_if : {A : Type 0} → (b : Bool) (x y : Try A) → CleanTry x → CleanTry y → CleanTry (if b then x else y)
try_if true x y h k = h
try_if false x y h k = k

-- ---- texts and fields ----

extended_clean : (line text : List ℕ) → Clean (extended line text)
extended_clean line text = clean_if (nat_le (length line + length text) 132) _ _ tt tt

blanked_clean : (way : Way) (n : ℕ) (line : List ℕ) → Clean (blanked way n line)
blanked_clean Writing n line = extended_clean line (replicate n 32)
blanked_clean Reading n line = tt

lettered_clean : (way : Way) (text line : List ℕ) → Clean (lettered way text line)
lettered_clean Writing text line = extended_clean line text
lettered_clean Reading text line = tt

put_text_clean : (h : Hand) (text : List ℕ) → Clean (put_text h text)
put_text_clean h text = clean_then (extended h.line text) _ (extended_clean h.line text) (λ line. tt)

letter_text_clean : (n : ℤ) → Clean (fielded.letter_text n)
letter_text_clean n = by (fielded.character_code n)
  where
    by : (o : Option ℕ) → Clean (elim o [ Some c ↦ Ok (c ∷ []) | None ↦ Err BadCharacter ])
    by (Some c) = tt
    by None = tt

put_letter_clean : (h : Hand) (n : ℤ) → Clean (put_letter h n)
put_letter_clean h n = clean_then (with_letter n h.line) _ (clean_then (fielded.letter_text n) _ (letter_text_clean n) (λ text. extended_clean h.line text)) (λ line. tt)

signed_value_clean : (sign : ℕ → ℤ) (o : Option ℕ) → Clean (fielded.signed_value sign o)
signed_value_clean sign None = tt
signed_value_clean sign (Some n) = tt

ranged_clean : (sign : ℕ → ℤ) (o : Option ℕ) → Clean (fielded.ranged sign o)
ranged_clean sign o = signed_value_clean sign (fielded.in_magnitude o)

signed_clean : (cs : List ℕ) → Clean (fielded.signed cs)
signed_clean [] = tt
signed_clean (c ∷ cs) =
    clean_if (nat_eq c 43) _ _ (ranged_clean (fielded.sign_of false) (fielded.digits_of cs)) (
    clean_if (nat_eq c 45) _ _ (ranged_clean (fielded.sign_of true) (fielded.digits_of cs)) (ranged_clean (fielded.sign_of false) (fielded.digits_of (c ∷ cs))))

truth_clean : (cs : List ℕ) → Clean (fielded.truth_at cs)
truth_clean [] = tt
truth_clean (c ∷ cs) = clean_if (nat_eq c 84) _ _ tt (clean_if (nat_eq c 70) _ _ tt tt)

letter_clean : (cs : List ℕ) → Clean (fielded.letter_of cs)
letter_clean [] = tt
letter_clean (c ∷ cs) = clean_if (fielded.is_character c) _ _ tt tt

put_clean : (m : Mark) (c : Content) (h : Hand) → CleanTry (put_by m c h)
put_clean (Due edits.Whole w) (Whole n) h = lifted_clean (put_whole h n) (put_text_clean h _)
put_clean (Due edits.Whole w) Nothing h = tt
put_clean (Due edits.Whole w) (Truth b) h = tt
put_clean (Due edits.Truth w) (Truth b) h = lifted_clean (put_truth h b) (put_text_clean h _)
put_clean (Due edits.Truth w) Nothing h = tt
put_clean (Due edits.Truth w) (Whole n) h = tt
put_clean (Due edits.Letter w) (Whole n) h = lifted_clean (put_letter h n) (put_letter_clean h n)
put_clean (Due edits.Letter w) Nothing h = tt
put_clean (Due edits.Letter w) (Truth b) h = tt
put_clean Between c h = tt
put_clean Complete c h = tt
put_clean Over c h = tt

take_clean : (m : Mark) (h : Hand) → CleanTry (take_by m h)
take_clean (Due edits.Whole w) h = lifted_clean _ (clean_then (take_whole h) _ (clean_then (fielded.whole_of (fielded.field (width_of h.mark) h.line)) _ (signed_clean (fielded.unblanked (fielded.field (width_of h.mark) h.line))) (λ n. tt)) (λ x. tt))
take_clean (Due edits.Truth w) h = lifted_clean _ (clean_then (take_truth h) _ (clean_then (fielded.truth_of (fielded.field (width_of h.mark) h.line)) _ (truth_clean (fielded.unblanked (fielded.field (width_of h.mark) h.line))) (λ n. tt)) (λ x. tt))
take_clean (Due edits.Letter w) h = lifted_clean _ (clean_then (take_letter h) _ (clean_then (fielded.letter_of (fielded.field 1 h.line)) _ (letter_clean (fielded.field 1 h.line)) (λ n. tt)) (λ x. tt))
take_clean Between h = tt
take_clean Complete h = tt
take_clean Over h = tt

-- ---- values ----

in_range_clean : (z : ℤ) → Clean (in_range z)
in_range_clean z = clean_if (nat_le (unsigned_abs z) greatest) _ _ tt tt

whole_clean : (r : Result ℤ Trap) → Clean r → CleanTry (whole r)
whole_clean (Ok z) h = tt
whole_clean (Err e) h = h

quotient_clean : (a b : ℤ) → Clean (quotient a b)
quotient_clean a (pos zero) = tt
quotient_clean a (pos (suc n)) = in_range_clean (int_div a (pos (suc n)))
quotient_clean a (negsuc n) = in_range_clean (int_div a (negsuc n))

remainder_clean : (a b : ℤ) → Clean (remainder a b)
remainder_clean a (pos zero) = tt
remainder_clean a (pos (suc n)) = in_range_clean (int_rem a (pos (suc n)))
remainder_clean a (negsuc n) = in_range_clean (int_rem a (negsuc n))

power_clean : (a b : ℤ) → Clean (power a b)
power_clean (pos zero) (pos zero) = tt
power_clean (pos zero) (pos (suc n)) = in_range_clean (int_pow (pos zero) (suc n))
power_clean (pos zero) (negsuc n) = tt
power_clean (pos (suc a)) (pos n) = in_range_clean (int_pow (pos (suc a)) n)
power_clean (pos (suc a)) (negsuc n) = tt
power_clean (negsuc a) (pos n) = in_range_clean (int_pow (negsuc a) n)
power_clean (negsuc a) (negsuc n) = tt

on_whole_clean : (op : Operator) (a b : ℤ) → CleanTry (on_whole op a b)
on_whole_clean Add a b = whole_clean (sum a b) (in_range_clean (a +ℤ b))
on_whole_clean Sub a b = whole_clean (difference a b) (in_range_clean (a -ℤ b))
on_whole_clean Mul a b = whole_clean (product a b) (in_range_clean (a *ℤ b))
on_whole_clean Div a b = whole_clean (quotient a b) (quotient_clean a b)
on_whole_clean Power a b = whole_clean (power a b) (power_clean a b)
on_whole_clean Lt a b = tt
on_whole_clean Le a b = tt
on_whole_clean Eq a b = tt
on_whole_clean Ne a b = tt
on_whole_clean Ge a b = tt
on_whole_clean Gt a b = tt
on_whole_clean And a b = tt
on_whole_clean Or a b = tt

on_truth_clean : (op : Operator) (a b : Bool) → CleanTry (on_truth op a b)
on_truth_clean Add a b = tt
on_truth_clean Sub a b = tt
on_truth_clean Mul a b = tt
on_truth_clean Div a b = tt
on_truth_clean Power a b = tt
on_truth_clean Lt a b = tt
on_truth_clean Le a b = tt
on_truth_clean Eq a b = tt
on_truth_clean Ne a b = tt
on_truth_clean Ge a b = tt
on_truth_clean Gt a b = tt
on_truth_clean And a b = tt
on_truth_clean Or a b = tt

operate_clean : (op : Operator) (a b : Content) → CleanTry (operate op a b)
operate_clean op (Whole a) (Whole b) = on_whole_clean op a b
operate_clean op (Truth a) (Truth b) = on_truth_clean op a b
operate_clean op (Whole a) (Truth b) = tt
operate_clean op (Whole a) Nothing = tt
operate_clean op (Truth a) (Whole b) = tt
operate_clean op (Truth a) Nothing = tt
operate_clean op Nothing b = tt

opposite_clean : (a : Content) → CleanTry (opposite a)
opposite_clean (Whole z) = tt
opposite_clean (Truth b) = tt
opposite_clean Nothing = tt

denied_clean : (a : Content) → CleanTry (denied a)
denied_clean (Whole z) = tt
denied_clean (Truth b) = tt
denied_clean Nothing = tt

truth_in_clean : (a : Content) → CleanTry (truth_in a)
truth_in_clean (Whole z) = tt
truth_in_clean (Truth b) = tt
truth_in_clean Nothing = tt

asked_clean : (k : Kind) (c : Content) → CleanTry (asked k c)
asked_clean Integer (Whole z) = tt
asked_clean Integer (Truth b) = tt
asked_clean Integer Nothing = tt
asked_clean Logical (Whole z) = tt
asked_clean Logical (Truth b) = tt
asked_clean Logical Nothing = tt

farthest_clean : (beats : ℤ → ℤ → Bool) (a : ℤ) (cs : List Content) → CleanTry (farthest beats a cs)
farthest_clean beats a [] = tt
farthest_clean beats a (Whole b ∷ bs) = try_if (beats b a) _ _ (farthest_clean beats b bs) (farthest_clean beats a bs)
farthest_clean beats a (Truth b ∷ bs) = tt
farthest_clean beats a (Nothing ∷ bs) = tt

excess_clean : (a b : ℤ) → CleanTry (excess a b)
excess_clean a b = try_if (int_lt b a) _ _ (whole_clean (difference a b) (in_range_clean (a -ℤ b))) tt

intrinsic_clean : (g : Intrinsic) (vs : List Content) → CleanTry (intrinsic g vs)
intrinsic_clean Iabs [] = tt
intrinsic_clean Iabs (Whole a ∷ []) = tt
intrinsic_clean Iabs (Truth a ∷ []) = tt
intrinsic_clean Iabs (Nothing ∷ []) = tt
intrinsic_clean Iabs (Whole a ∷ b ∷ vs) = tt
intrinsic_clean Iabs (Truth a ∷ b ∷ vs) = tt
intrinsic_clean Iabs (Nothing ∷ b ∷ vs) = tt
intrinsic_clean Mod vs = mod_clean vs
  where
    mod_clean : (vs : List Content) → CleanTry (intrinsic Mod vs)
    mod_clean [] = tt
    mod_clean (Whole a ∷ Whole b ∷ []) = whole_clean _ (remainder_clean a b)
    mod_clean (Whole a ∷ Whole b ∷ c ∷ cs) = tt
    mod_clean (Whole a ∷ Truth b ∷ cs) = tt
    mod_clean (Whole a ∷ Nothing ∷ cs) = tt
    mod_clean (Whole a ∷ []) = tt
    mod_clean (Truth a ∷ cs) = tt
    mod_clean (Nothing ∷ cs) = tt
intrinsic_clean Isign vs = sign_clean vs
  where
    sign_clean : (vs : List Content) → CleanTry (intrinsic Isign vs)
    sign_clean [] = tt
    sign_clean (Whole a ∷ Whole b ∷ []) = tt
    sign_clean (Whole a ∷ Whole b ∷ c ∷ cs) = tt
    sign_clean (Whole a ∷ Truth b ∷ cs) = tt
    sign_clean (Whole a ∷ Nothing ∷ cs) = tt
    sign_clean (Whole a ∷ []) = tt
    sign_clean (Truth a ∷ cs) = tt
    sign_clean (Nothing ∷ cs) = tt
intrinsic_clean Idim vs = dim_clean vs
  where
    dim_clean : (vs : List Content) → CleanTry (intrinsic Idim vs)
    dim_clean [] = tt
    dim_clean (Whole a ∷ Whole b ∷ []) = excess_clean a b
    dim_clean (Whole a ∷ Whole b ∷ c ∷ cs) = tt
    dim_clean (Whole a ∷ Truth b ∷ cs) = tt
    dim_clean (Whole a ∷ Nothing ∷ cs) = tt
    dim_clean (Whole a ∷ []) = tt
    dim_clean (Truth a ∷ cs) = tt
    dim_clean (Nothing ∷ cs) = tt
intrinsic_clean Max0 [] = tt
intrinsic_clean Max0 (Whole a ∷ vs) = farthest_clean _ a vs
intrinsic_clean Max0 (Truth a ∷ vs) = tt
intrinsic_clean Max0 (Nothing ∷ vs) = tt
intrinsic_clean Min0 [] = tt
intrinsic_clean Min0 (Whole a ∷ vs) = farthest_clean _ a vs
intrinsic_clean Min0 (Truth a ∷ vs) = tt
intrinsic_clean Min0 (Nothing ∷ vs) = tt

intrinsic_by_clean : (g : Option Intrinsic) (vs : List Content) → CleanTry (intrinsic_by g vs)
intrinsic_by_clean (Some g) vs = intrinsic_clean g vs
intrinsic_by_clean None vs = tt

-- ---- spots ----

store_clean : (p : Spot) (v : Content) (st : Store) → CleanTry (store p v st)
store_clean p v st = try_if p.fixed _ _ tt tt

shift_clean : (p : Spot) (n : ℕ) → CleanTry (shift p n)
shift_clean p n = try_if (nat_lt (p.position + n) p.size) _ _ tt tt

dummy_clean : (n : ℕ) (ps : List Spot) → CleanTry (dummy n ps)
dummy_clean zero [] = tt
dummy_clean (suc n) [] = tt
dummy_clean zero (p ∷ ps) = tt
dummy_clean (suc n) (p ∷ ps) = dummy_clean n ps

distance_clean : (m : ℕ) (js ds : List Content) → CleanTry (distance m js ds)
distance_clean m [] [] = tt
distance_clean m [] (d ∷ ds) = tt
distance_clean m (Whole j ∷ js) (Whole d ∷ ds) = try_if (int_le (pos 1) j && int_le j d) _ _ (try_then (distance (m * unsigned_abs d) js ds) _ (distance_clean (m * unsigned_abs d) js ds) (λ n. tt)) tt
distance_clean m (Whole j ∷ js) (Truth d ∷ ds) = tt
distance_clean m (Whole j ∷ js) (Nothing ∷ ds) = tt
distance_clean m (Whole j ∷ js) [] = tt
distance_clean m (Truth j ∷ js) ds = tt
distance_clean m (Nothing ∷ js) ds = tt

times_clean : (d : ℤ) (t : Try ℕ) → CleanTry t → CleanTry (times d t)
times_clean (pos zero) t h = tt
times_clean (pos (suc n)) t h = try_then t _ h (λ m. tt)
times_clean (negsuc n) t h = tt

extent_clean : (ds : List Content) → CleanTry (extent ds)
extent_clean [] = tt
extent_clean (Whole d ∷ ds) = times_clean d (extent ds) (extent_clean ds)
extent_clean (Truth d ∷ ds) = tt
extent_clean (Nothing ∷ ds) = tt

fit_clean : (a b c : Content) → CleanTry (fit_loop_in a b c)
fit_clean (Whole a) (Whole b) (Whole c) = try_if (int_le (pos 1) a && int_le a b && int_le (pos 1) c) _ _ tt tt
fit_clean (Whole a) (Whole b) (Truth c) = tt
fit_clean (Whole a) (Whole b) Nothing = tt
fit_clean (Whole a) (Truth b) c = tt
fit_clean (Whole a) Nothing c = tt
fit_clean (Truth a) b c = tt
fit_clean Nothing b c = tt

unit_clean : (way : Way) (c : Content) → CleanTry (on_unit way c)
unit_clean way (Whole z) = try_if (int_le z (unit_for way) && int_le (unit_for way) z) _ _ tt tt
unit_clean way (Truth b) = tt
unit_clean way Nothing = tt

nth_clean : (ts : List ℕ) (n : ℕ) → CleanTry (nth ts n)
nth_clean [] n = tt
nth_clean (t ∷ ts) zero = tt
nth_clean (t ∷ ts) (suc n) = nth_clean ts n

target_clean : (ts : List ℕ) (c : Content) → CleanTry (target_at ts c)
target_clean ts (Whole (pos zero)) = tt
target_clean ts (Whole (pos (suc n))) = nth_clean ts n
target_clean ts (Whole (negsuc n)) = tt
target_clean ts (Truth b) = tt
target_clean ts Nothing = tt

-- ---- moves of the records ----

-- behind a step the long record is still to come; or it is trapped otherwise than at the end of the input
abbrev LongRead : {A : Type 0} → Result (A × Files) Trap → Type 0
LongRead (Ok x) = HasLong x.1.unread
LongRead (Err e) = IsOther e

abbrev LongWalk : {A : Type 0} → Result (A × Files) Break → Type 0
LongWalk (Ok x) = HasLong x.1.unread
LongWalk (Err e) = IsOther e.0

abbrev LongMove : Move → Type 0
LongMove (Moves t) = HasLong t.unread
LongMove (Breaks e t) = IsOther e
LongMove Misses = Unit {0}

walk_if : {A : Type 0} → (b : Bool) (x y : Result (A × Files) Break) → LongWalk x → LongWalk y → LongWalk (if b then x else y)
walk_if true x y h k = h
walk_if false x y h k = k

next_long : (rs : List Record) (f : Files) → HasLong rs → LongRead (next_record rs f)
next_long [] f h = absurd h
next_long (r ∷ rs) f h = by (nat_le (length r) 65535) refl
  where
    by : (b : Bool) → nat_le (length r) 65535 ≡ b → LongRead (if b then Ok (r, record f { unread = rs }) else Err LongRecord)
    by true e = elim h [ inl long ↦ absurd (grind (arith, nat_tests, e, long)) | inr more ↦ more ]
    by false e = tt

exchanged_long : (way : Way) (line : List ℕ) (f : Files) → HasLong f.unread → LongRead (exchanged way line f)
exchanged_long Writing line f h = h
exchanged_long Reading line f h = next_long f.unread f h

walk_read : {A : Type 0} → (f : Files) (r : Result (List ℕ × Files) Trap) (go : List ℕ × Files → Result (A × Files) Break) → LongRead r → ((line : List ℕ) (f1 : Files) → HasLong f1.unread → LongWalk (go (line, f1))) → LongWalk (with_records f r >>= go)
walk_read f (Ok x) go h k = k x.0 x.1 h
walk_read f (Err e) go h k = h

walk_line : {A : Type 0} → (f : Files) (r : Result (List ℕ) Trap) (go : List ℕ → Result (A × Files) Break) → Clean r → ((line : List ℕ) → LongWalk (go line)) → LongWalk (with_records f r >>= go)
walk_line f (Ok line) go h k = k line
walk_line f (Err e) go h k = h

abbrev LongOnward : OnRecords → Type 0
LongOnward past = (line : List ℕ) (f : Files) → HasLong f.unread → LongWalk (past line f)

seek_long : (way : Way) (cycle : List Step) (k : Kind) (rest : List Step) (past : OnRecords) → LongOnward past → LongOnward (seek way cycle k rest past)
seek_long way cycle k [] past p line f h = p line f h
seek_long way cycle k (Takes j w ∷ rest) past p line f h = walk_if (suits k j) (Ok (hand_at way rest cycle line (Due j w), f)) (mismatch line f) h tt
seek_long way cycle k (Blanks n ∷ rest) past p line f h = walk_line f (blanked way n line) (λ line1. seek way cycle k rest past line1 f) (blanked_clean way n line) (λ line1. seek_long way cycle k rest past p line1 f h)
seek_long way cycle k (Chars text ∷ rest) past p line f h = walk_line f (lettered way text line) (λ line1. seek way cycle k rest past line1 f) (lettered_clean way text line) (λ line1. seek_long way cycle k rest past p line1 f h)
seek_long way cycle k (Slash ∷ rest) past p line f h = walk_read f (exchanged way line f) (λ x. seek way cycle k rest past x.0 x.1) (exchanged_long way line f h) (λ line1 f1 h1. seek_long way cycle k rest past p line1 f1 h1)

cycled_long : (way : Way) (cycle : List Step) (k : Kind) → LongOnward (cycled way cycle k)
cycled_long way cycle k line f h =
    walk_if (has_item cycle) (with_records f (exchanged way line f) >>= λ x. seek way cycle k cycle mismatch x.0 x.1) (mismatch line f)
    (walk_read f (exchanged way line f) (λ x. seek way cycle k cycle mismatch x.0 x.1) (exchanged_long way line f h) (λ line1 f1 h1. seek_long way cycle k cycle mismatch (λ line2 f2 h2. tt) line1 f1 h1))
    tt

item_long : (hand : Hand) (k : Kind) (f : Files) → HasLong f.unread → LongWalk (to_item hand k f)
item_long hand k f h = seek_long hand.way hand.cycle k hand.rest (cycled hand.way hand.cycle k) (cycled_long hand.way hand.cycle k) (line_in_hand hand.way hand.mark hand.line) f h

shut_long : (way : Way) (cycle : List Step) → LongOnward (shut way cycle)
shut_long Writing cycle line f h = h
shut_long Reading cycle line f h = h

seek_end_long : (way : Way) (cycle rest : List Step) → LongOnward (seek_end way cycle rest)
seek_end_long way cycle [] line f h = shut_long way cycle line f h
seek_end_long way cycle (Takes j w ∷ rest) line f h = shut_long way cycle line f h
seek_end_long way cycle (Blanks n ∷ rest) line f h = walk_line f (blanked way n line) (λ line1. seek_end way cycle rest line1 f) (blanked_clean way n line) (λ line1. seek_end_long way cycle rest line1 f h)
seek_end_long way cycle (Chars text ∷ rest) line f h = walk_line f (lettered way text line) (λ line1. seek_end way cycle rest line1 f) (lettered_clean way text line) (λ line1. seek_end_long way cycle rest line1 f h)
seek_end_long way cycle (Slash ∷ rest) line f h = walk_read f (exchanged way line f) (λ x. seek_end way cycle rest x.0 x.1) (exchanged_long way line f h) (λ line1 f1 h1. seek_end_long way cycle rest line1 f1 h1)

end_long : (hand : Hand) (f : Files) → HasLong f.unread → LongWalk (to_end hand f)
end_long hand f h = seek_end_long hand.way hand.cycle hand.rest (line_in_hand hand.way hand.mark hand.line) f h

placed_long : (t : Tape) (r : Result (Hand × Files) Break) → LongWalk r → LongMove (tape_placed t r)
placed_long t (Ok x) h = h
placed_long t (Err e) h = h

due_long : (k : Kind) (t : Tape) → HasLong t.unread → LongMove (due k t)
due_long k t h = placed_long t (to_item t.hand k (files_of t)) (item_long t.hand k (files_of t) h)

closed_long : (t : Tape) → HasLong t.unread → LongMove (closed t)
closed_long t h = placed_long t (to_end t.hand (files_of t)) (end_long t.hand (files_of t) h)

begun_long : (fs : Fields) (t : Tape) (r : Result (List ℕ × Files) Trap) → LongRead r → LongMove (read_begun fs t r)
begun_long fs t (Ok x) h = h
begun_long fs t (Err e) h = h

opened_long : (way : Way) (fs : Option Fields) (t : Tape) → HasLong t.unread → LongMove (opened_by way fs t)
opened_long Reading (Some fs) t h = begun_long fs t (next_record t.unread (files_of t)) (next_long t.unread (files_of t) h)
opened_long Writing (Some fs) t h = h
opened_long way None t h = tt

handed_long : (t : Tape) (o : Try Hand) → CleanTry o → HasLong t.unread → LongMove (handed t o)
handed_long t (Yields hand) c h = h
handed_long t (Traps e) c h = c
handed_long t Fails c h = tt

put_long : (c : Content) (t : Tape) → HasLong t.unread → LongMove (put c t)
put_long c t h = handed_long t (put_by t.hand.mark c t.hand) (put_clean t.hand.mark c t.hand) h

-- ---- parts of a run ----

abbrev IsNoEnd : End → Type 0
IsNoEnd (Ended (Trapped e p)) = IsOther e
IsNoEnd _ = Unit {0}

-- it goes on with the long record still to come, or it ends otherwise than at the end of the input
abbrev LongRun : {A : Type 0} → Out A → Type 0
LongRun (Gives a w) = HasLong w.state.tape.unread
LongRun (Halts e w) = IsNoEnd e

run_if : {A : Type 0} → (b : Bool) (x y : Out A) → LongRun x → LongRun y → LongRun (if b then x else y)
run_if true x y h k = h
run_if false x y h k = k

bind_long : {A B : Type 0} → (o : Out A) (go : A → World → Out B) → LongRun o → ((a : A) (w : World) → HasLong w.state.tape.unread → LongRun (go a w)) → LongRun (bind o go)
bind_long (Gives a w) go h k = k a w h
bind_long (Halts e w) go h k = h

settle_long : {A : Type 0} → (p : Place) (t : Try A) (w : World) → CleanTry t → HasLong w.state.tape.unread → LongRun (settle p t w)
settle_long p (Yields a) w c h = h
settle_long p (Traps e) w c h = c
settle_long p Fails w c h = tt

-- an operation that has nothing to do with records
settled : {A B : Type 0} → (p : Place) (t : Try A) (w : World) (go : A → World → Out B) → CleanTry t → HasLong w.state.tape.unread → ((a : A) (w1 : World) → HasLong w1.state.tape.unread → LongRun (go a w1)) → LongRun (bind (settle p t w) go)
settled p t w go c h k = bind_long (settle p t w) go (settle_long p t w c h) k

moving_long : (p : Place) (m : Move) (w : World) → LongMove m → LongRun (moving p m w)
moving_long p (Moves t) w h = h
moving_long p (Breaks e t) w h = h
moving_long p Misses w h = tt

take_one_long : (w : World) → HasLong w.state.tape.unread → LongRun (take_one w)
take_one_long w h = by w.left
  where
    by : (n : ℕ) → LongRun (take_from w.state n w.count)
    by zero = tt
    by (suc n) = h

on_value_long : (w : World) (stack : List Entry) (go : Content → List Entry → Out Core) → ((v : Content) (rest : List Entry) → LongRun (go v rest)) → LongRun (on_value w stack go)
on_value_long w [] go k = tt
on_value_long w (Val v ∷ rest) go k = k v rest
on_value_long w (At p ∷ rest) go k = tt

on_spot_long : (w : World) (stack : List Entry) (go : Spot → List Entry → Out Core) → ((p : Spot) (rest : List Entry) → LongRun (go p rest)) → LongRun (on_spot w stack go)
on_spot_long w [] go k = tt
on_spot_long w (Val v ∷ rest) go k = tt
on_spot_long w (At p ∷ rest) go k = k p rest

take_values_long : (w : World) (n : ℕ) (stack : List Entry) (got : List Content) (go : List Content → List Entry → Out Core) → ((vs : List Content) (rest : List Entry) → LongRun (go vs rest)) → LongRun (take_values w n stack got go)
take_values_long w zero stack got go k = k got stack
take_values_long w (suc n) [] got go k = tt
take_values_long w (suc n) (Val v ∷ stack) got go k = take_values_long w n stack (v ∷ got) go k
take_values_long w (suc n) (At p ∷ stack) got go k = tt

take_spots_long : (w : World) (n : ℕ) (stack : List Entry) (got : List Spot) (go : List Spot → List Entry → Out Core) → ((ps : List Spot) (rest : List Entry) → LongRun (go ps rest)) → LongRun (take_spots w n stack got go)
take_spots_long w zero stack got go k = k got stack
take_spots_long w (suc n) [] got go k = tt
take_spots_long w (suc n) (Val v ∷ stack) got go k = tt
take_spots_long w (suc n) (At p ∷ stack) got go k = take_spots_long w n stack (p ∷ got) go k

pushed_long : (s : Core) (rest : List Entry) (w : World) (t : Try Content) → CleanTry t → HasLong w.state.tape.unread → LongRun (pushed s rest w t)
pushed_long s rest w t c h = settled s.frame.place t w _ c h (λ v w1 h1. h1)

pushed_spot_long : (s : Core) (rest : List Entry) (w : World) (t : Try Spot) → CleanTry t → HasLong w.state.tape.unread → LongRun (pushed_spot s rest w t)
pushed_spot_long s rest w t c h = settled s.frame.place t w _ c h (λ v w1 h1. h1)

changed_long : (s : Core) (rest : List Entry) (w : World) (t : Try Store) → CleanTry t → HasLong w.state.tape.unread → LongRun (changed s rest w t)
changed_long s rest w t c h = settled s.frame.place t w _ c h (λ v w1 h1. h1)

loop_start_long : (s : Core) (limit step : ℕ) (p : Spot) (rest : List Entry) (w : World) (vs : List Content) → HasLong w.state.tape.unread → LongRun (loop_start s limit step p rest w vs)
loop_start_long s limit step p rest w [] h = tt
loop_start_long s limit step p rest w (a ∷ []) h = tt
loop_start_long s limit step p rest w (a ∷ b ∷ []) h = tt
loop_start_long s limit step p rest w (a ∷ b ∷ c ∷ []) h = settled s.frame.place (fit_loop_in a b c) w _ (fit_clean a b c) h (λ k w1 h1. settled s.frame.place (store p a w1.state.store) w1 _ (store_clean p a w1.state.store) h1 (λ st w2 h2. h2))
loop_start_long s limit step p rest w (a ∷ b ∷ c ∷ d ∷ vs) h = tt

loop_turn_long : (s : Core) (to : ℕ) (p : Spot) (rest : List Entry) (w : World) (k : LoopParameters) (v : Content) → HasLong w.state.tape.unread → LongRun (loop_turn s to p rest w k v)
loop_turn_long s to p rest w k (Whole z) h =
    run_if (int_le (z +ℤ k.step) k.limit) _ _
    (settled s.frame.place (store p (Whole (z +ℤ k.step)) w.state.store) w _ (store_clean p (Whole (z +ℤ k.step)) w.state.store) h (λ st w1 h1. h1))
    (changed_long s rest w (store p Nothing w.state.store) (store_clean p Nothing w.state.store) h)
loop_turn_long s to p rest w k (Truth b) h = tt
loop_turn_long s to p rest w k Nothing h = tt

jump_sign_long : (s : Core) (a b c : ℕ) (rest : List Entry) (w : World) (v : Content) → HasLong w.state.tape.unread → LongRun (jump_sign s a b c rest w v)
jump_sign_long s a b c rest w (Whole (negsuc z)) h = h
jump_sign_long s a b c rest w (Whole (pos zero)) h = h
jump_sign_long s a b c rest w (Whole (pos (suc z))) h = h
jump_sign_long s a b c rest w (Truth t) h = tt
jump_sign_long s a b c rest w Nothing h = tt

back_long : (s : Core) (w : World) (callers : List Caller) → HasLong w.state.tape.unread → LongRun (back_to s w callers)
back_long s w [] h = tt
back_long s w (c ∷ callers) h = h

choose_long : {A : Type 0} → (b : Bool) (x y : Out A) → LongRun x → LongRun y → LongRun (choose b x y)
choose_long true x y h k = h
choose_long false x y h k = k

take_then : (t : Tape) (o : Try (Content × Hand)) → CleanTry o → CleanTry {A = Content × Tape} (then_try o (λ x. Yields (x.0, tape_of x.1 (files_of t))))
take_then t o c = try_then o _ c (λ x. tt)

-- what a READ takes of the record in hand leaves the records
abbrev Untouched : List Record → Try (Content × Tape) → Type 0
Untouched rs (Yields x) = x.1.unread ≡ rs
Untouched rs (Traps e) = Unit {0}
Untouched rs Fails = Unit {0}

untouched : (t : Tape) (o : Try (Content × Hand)) → Untouched t.unread (then_try o (λ x. Yields (x.0, tape_of x.1 (files_of t))))
untouched t (Yields x) = refl
untouched t (Traps e) = tt
untouched t Fails = tt

taken_long : {B : Type 0} → (p : Place) (o : Try (Content × Tape)) (w : World) (go : Content × Tape → World → Out B) → CleanTry o → Untouched w.state.tape.unread o → HasLong w.state.tape.unread → ((x : Content × Tape) → HasLong x.1.unread → LongRun (go x w)) → LongRun (bind (settle p o w) go)
taken_long p (Yields x) w go c u h k = k x (subst HasLong (sym u) h)
taken_long p (Traps e) w go c u h k = c
taken_long p Fails w go c u h k = tt

taken_content_long : (p : Place) (w : World) → HasLong w.state.tape.unread → LongRun (taken_content p take w)
taken_content_long p w h =
    let t = w.state.tape in
    taken_long p (take t) w _ (take_then t (take_by t.hand.mark t.hand) (take_clean t.hand.mark t.hand)) (untouched t (take_by t.hand.mark t.hand)) h (λ x h1. h1)

transfer_long : (place : Place) (way : Way) (k : Kind) (p : Spot) (w : World) → HasLong w.state.tape.unread → LongRun (transfer place way k p w)
transfer_long place Reading k p w h = bind_long (taken_content place take w) _ (taken_content_long place w h) (λ c w1 h1. settled place (store p c w1.state.store) w1 _ (store_clean p c w1.state.store) h1 (λ st w2 h2. h2))
transfer_long place Writing k p w h = settled place (load k p w.state.store) w _ (asked_clean k (w.state.store (unit_of p))) h (λ c w1 h1. moving_long place (put c w1.state.tape) w1 (put_long c w1.state.tape h1))

edited_long : (place : Place) (way : Way) (k : Kind) (p : Spot) (w : World) → HasLong w.state.tape.unread → LongRun (edited place way k p w)
edited_long place way k p w h = bind_long (taped place (due k) w) _ (moving_long place (due k w.state.tape) w (due_long k w.state.tape h)) (λ u w1 h1. transfer_long place way k p w1 h1)

row_long : (place : Place) (way : Way) (k : Kind) (p : Spot) (n at : ℕ) (w : World) → HasLong w.state.tape.unread → LongRun (row place way k p n at w)
row_long place way k p zero at w h = h
row_long place way k p (suc n) at w h =
    settled place (shift p at) w _ (shift_clean p at) h (λ q w1 h1. bind_long (edited place way k q w1) _ (edited_long place way k q w1 h1) (λ u w2 h2. row_long place way k p n (at + 1) w2 h2))

stopped_long : (n : Option ℕ) → IsNoEnd (stopped n)
stopped_long None = tt
stopped_long (Some n) = tt

-- ---- a run ----

act_long : (plans : List Fields) (j : Option Instruction) (s : Core) (w : World) → HasLong w.state.tape.unread → LongRun (act plans j s w)
act_long plans None s w h = tt
act_long plans (Some (i.Begin p)) s w h = bind_long (take_one w) _ (take_one_long w h) (λ u w1 h1. h1)
act_long plans (Some i.Step) s w h = bind_long (take_one w) _ (take_one_long w h) (λ u w1 h1. h1)
act_long plans (Some (i.Push v)) s w h = h
act_long plans (Some (i.PushSpot first size)) s w h = h
act_long plans (Some (i.Dummy n)) s w h = pushed_spot_long s s.stack w (dummy n s.frame.spots) (dummy_clean n s.frame.spots) h
act_long plans (Some (i.Element n)) s w h =
    take_values_long w n s.stack [] _ (λ ds rest. take_values_long w n rest [] _ (λ js below. on_spot_long w below _ (λ p under.
    pushed_spot_long s under w (then_try (distance 1 js ds) (λ m. shift p m)) (try_then (distance 1 js ds) _ (distance_clean 1 js ds) (λ m. shift_clean p m)) h)))
act_long plans (Some (i.Load k)) s w h = on_spot_long w s.stack _ (λ p rest. pushed_long s rest w (load k p w.state.store) (asked_clean k (w.state.store (unit_of p))) h)
act_long plans (Some i.Store) s w h = on_value_long w s.stack _ (λ v rest. on_spot_long w rest _ (λ p below. changed_long s below w (store p v w.state.store) (store_clean p v w.state.store) h))
act_long plans (Some i.Forget) s w h = on_spot_long w s.stack _ (λ p rest. changed_long s rest w (store p Nothing w.state.store) (store_clean p Nothing w.state.store) h)
act_long plans (Some (i.Lend q)) s w h = on_value_long w s.stack _ (λ v rest. h)
act_long plans (Some (i.Both op)) s w h = on_value_long w s.stack _ (λ b rest. on_value_long w rest _ (λ a below. pushed_long s below w (operate op a b) (operate_clean op a b) h))
act_long plans (Some (i.Compare op)) s w h = on_value_long w s.stack _ (λ b rest. on_value_long w rest _ (λ a below. pushed_long s below w (operate op a b) (operate_clean op a b) h))
act_long plans (Some i.Minus) s w h = on_value_long w s.stack _ (λ a rest. pushed_long s rest w (opposite a) (opposite_clean a) h)
act_long plans (Some i.Not) s w h = on_value_long w s.stack _ (λ a rest. pushed_long s rest w (denied a) (denied_clean a) h)
act_long plans (Some (i.Known g n)) s w h = take_values_long w n s.stack [] _ (λ vs rest. pushed_long s rest w (intrinsic_by (known g) vs) (intrinsic_by_clean (known g) vs) h)
act_long plans (Some (i.Jump to)) s w h = h
act_long plans (Some (i.JumpFalse to)) s w h = on_value_long w s.stack _ (λ v rest. settled s.frame.place (truth_in v) w _ (truth_in_clean v) h (λ b w1 h1. choose_long b _ _ h1 h1))
act_long plans (Some (i.JumpSign a b c)) s w h = on_value_long w s.stack _ (λ v rest. jump_sign_long s a b c rest w v h)
act_long plans (Some (i.JumpTable ts)) s w h = on_value_long w s.stack _ (λ v rest. settled s.frame.place (target_at ts v) w _ (target_clean ts v) h (λ to w1 h1. h1))
act_long plans (Some (i.LoopStart limit step)) s w h = take_values_long w 3 s.stack [] _ (λ vs rest. on_spot_long w rest _ (λ p below. loop_start_long s limit step p below w vs h))
act_long plans (Some (i.LoopTurn limit step to)) s w h =
    on_spot_long w s.stack _ (λ p rest. settled s.frame.place (load Integer p w.state.store) w _ (asked_clean Integer (w.state.store (unit_of p))) h (λ v w1 h1. loop_turn_long s to p rest w1 (loop_in limit step w1.state.store) v h1))
act_long plans (Some (i.Call to n)) s w h = take_spots_long w n s.stack [] _ (λ spots rest. h)
act_long plans (Some i.Return) s w h = back_long s w s.callers h
act_long plans (Some (i.Start way n)) s w h =
    on_value_long w s.stack _ (λ v rest. settled s.frame.place (on_unit way v) w _ (unit_clean way v) h (λ u w1 h1.
    bind_long (taped s.frame.place (opened_by way (slice_get plans n)) w1) _ (moving_long s.frame.place (opened_by way (slice_get plans n) w1.state.tape) w1 (opened_long way (slice_get plans n) w1.state.tape h1)) (λ u w2 h2. h2)))
act_long plans (Some (i.Item way k)) s w h = on_spot_long w s.stack _ (λ p rest. bind_long (edited s.frame.place way k p w) _ (edited_long s.frame.place way k p w h) (λ u w1 h1. h1))
act_long plans (Some (i.Row way k n)) s w h =
    take_values_long w n s.stack [] _ (λ ds rest. on_spot_long w rest _ (λ p below. settled s.frame.place (extent ds) w _ (extent_clean ds) h (λ m w1 h1. bind_long (row s.frame.place way k p m 0 w1) _ (row_long s.frame.place way k p m 0 w1 h1) (λ u w2 h2. h2))))
act_long plans (Some i.Finish) s w h = bind_long (taped s.frame.place closed w) _ (moving_long s.frame.place (closed w.state.tape) w (closed_long w.state.tape h)) (λ u w1 h1. h1)
act_long plans (Some (i.Halt n)) s w h = stopped_long n

exec_long : (c : Program) (n : ℕ) (s : Core) (w : World) → HasLong w.state.tape.unread → LongRun (exec c n s w)
exec_long c zero s w h = h
exec_long c (suc n) s w h = bind_long (step c s w) (exec c n) (act_long c.plans (slice_get c.code s.pc) s w h) (λ s1 w1 h1. exec_long c n s1 w1 h1)

pub long_never_ends : (c : Program) (input : List Record) (n : ℕ) (a : Shown) (count : ℕ) → HasLong input → Runs c input n a count → (place : Place) → a.end ≡ Ended (Trapped EndOfInput place) → ⊥
long_never_ends c input n a count h r place e =
    let comes : HasLong r.run.world.state.tape.unread = subst (λ (o : Out Core). LongRun o) r.run.comes (exec_long c r.run.count start (first_world input n) h) in
    let ends : IsNoEnd r.run.end = subst (λ (o : Out Core). LongRun o) r.run.ends (act_long c.plans (slice_get c.code r.run.last.pc) r.run.last r.run.world comes) in
    subst IsNoEnd (ap (λ (x : Shown). x.end) r.run.shows ∙ e) ends

-- ---- bytes behind which a record is too long ----

-- n letters a, of which none ends a line
abbrev pub letters : ℕ → List ℕ
letters n = replicate n 97

letters_cut : (n : ℕ) → cut (letters n) ≡ record { lines = []; rest = letters n }
letters_cut zero = refl
letters_cut (suc n) = ap (λ (c : Cut). with_front 97 c.lines c.rest) (letters_cut n)

letters_long : (n : ℕ) → length (letters n) ≡ n
letters_long zero = refl
letters_long (suc n) = ap suc (letters_long n)

last_line_long : (bytes : List ℕ) (n : ℕ) → n ≤ length (cut (bytes ++ letters n)).rest
last_line_long [] n = subst (λ (c : Cut). n ≤ length c.rest) (sym (letters_cut n)) (omega (arith, letters_long n))
last_line_long (b ∷ bs) n = by (b == 10) (cut (bs ++ letters n)).lines (last_line_long bs n)
  where
    by : (is : Bool) (lines : List (List ℕ)) → n ≤ length (cut (bs ++ letters n)).rest → n ≤ length (if is then record { lines = [] ∷ (cut (bs ++ letters n)).lines; rest = (cut (bs ++ letters n)).rest } else with_front b lines (cut (bs ++ letters n)).rest).rest
    by true lines h = h
    by false [] h = omega (arith, h)
    by false (line ∷ lines) h = h

cut_line_long : (rest : List ℕ) → 65536 < length rest → HasLong (cut_line rest)
cut_line_long rest long = let some : nat_lt 65536 (length rest) ≡ true = grind (arith, nat_tests, long) in subst (λ (b : Bool). HasLong (if b then rest ∷ [] else [])) (sym some) (inl (omega (arith, long)))

-- behind any bytes enough of them are a record that is too long
pub later_long : (got : List ℕ) (n : ℕ) → 65536 < n → HasLong (got_records true (got ++ letters n))
later_long got n many =
    let rest = (cut (got ++ letters n)).rest in
    long_behind (map without_return (cut (got ++ letters n)).lines) (cut_line rest) (cut_line_long rest (omega (arith, many, last_line_long got n)))
