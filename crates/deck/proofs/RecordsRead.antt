-- The texts of READ and WRITE are read as these statements.
use Rattle.std.proofs.Common.{◌≡◌, ℕ, zero, suc, pos, negsuc, Bool, true, false, cond, List, [], ◌∷◌, ◌++◌, Option, Some, None, refl, ap, ◌∙◌, codes}
use Rattle.std.specs.Prelude.{decimal}
use Rattle.f66_tree.specs.Syntax.{Text, Par, Constant, Named, Entry, One, Many, Entries, NoEntry, AndEntry, Act, Read, Write}
use Rattle.stmt_text.specs.Texts.{is_one, step_text, par_text, loop_text, entry_text, entries_text, more_entries_text, statement_text}
use Rattle.stmt_reader.specs.declared.token.Token.{Token}
use Rattle.stmt_reader.specs.declared.token.Token.TheVariants as t
use Rattle.stmt_reader.specs.declared.lexer.Part.TheVariants.{Clear}
use Rattle.stmt_reader.specs.Levels.{is_name}
use Rattle.stmt_reader.specs.Spelling.{spell}
use Rattle.stmt_reader.specs.Lexing.{lexed, tokens_of}
use Rattle.stmt_reader.specs.Cutting.{fronted, cuts, cut, is_equals}
use Rattle.stmt_reader.specs.Taking.{then_if}
use Rattle.stmt_reader.specs.Entries.{entries_of, record_of}
use Rattle.stmt_reader.specs.Statements.{or_else, assignment_of, statement_of}
use Rattle.stmt_reader.proofs.CutLemmas.{cut_spelled, equals_outside, token_then}
use Rattle.deck.specs.Readable.{is_readable_par}
use Rattle.deck.specs.ReadableStatements.{IsLabelInRange, IsReadableEntry, AreReadableEntries}
use Rattle.deck.proofs.AsBranch.{ReadsAsBranch}
use Rattle.deck.proofs.KnownTokens.{AreKnown, spell_known, par_known, step_known}
use Rattle.deck.proofs.LexingLemmas.{IsBreak, name_begins, word_ends, number_begins, number_ends}
use Rattle.deck.proofs.BranchesRead.{par_token, par_lexed, par_is}
use Rattle.deck.proofs.TextsRead.{text_lexed}
use Rattle.deck.proofs.CallsRead.{no_equals}
use Rattle.deck.proofs.ChoicesRead.{jumped, branched}
use Rattle.deck.proofs.EntriesRead.{step_then, spell_entry, spell_entries, more_entries, entries_spelled}

-- ---- the tokens of entries ----

step_breaks : (c : Par) (one : Bool) (k : List ℕ) → IsBreak k → IsBreak (cond one k (44 ∷ par_text c k))
step_breaks c true k b = b
step_breaks c false k b = (refl, refl, refl, refl)

step_lexed : (c : Par) (one : Bool) (k : List ℕ) → is_readable_par c ≡ true → IsBreak k → lexed (Clear false) (cond one k (44 ∷ par_text c k)) ≡ cond one (lexed (Clear false) k) (t.Comma ∷ par_token c ∷ lexed (Clear false) k)
step_lexed c true k is b = refl
step_lexed c false k is b = ap (λ (y : List Token). t.Comma ∷ y) (par_lexed c true k is b)

more_break : (es : Entries) (k : List ℕ) → IsBreak k → IsBreak (more_entries_text es k)
more_break NoEntry k b = b
more_break (AndEntry e es) k b = (refl, refl, refl, refl)

loop_lexed : (x : Text) (a b c : Par) (k : List ℕ) → is_name x ≡ true → is_readable_par a ≡ true → is_readable_par b ≡ true → is_readable_par c ≡ true
    → lexed (Clear true) (loop_text x a b c (41 ∷ k)) ≡ t.Word x ∷ t.Equals ∷ par_token a ∷ t.Comma ∷ par_token b ∷ step_then c (t.Close ∷ lexed (Clear false) k)
loop_lexed x a b c k name ra rb rc =
    name_begins true x (61 ∷ par_text a (44 ∷ par_text b (step_text c (41 ∷ k)))) name
    ∙ word_ends x (61 ∷ par_text a (44 ∷ par_text b (step_text c (41 ∷ k)))) (refl, refl, refl, refl)
    ∙ ap (λ (y : List Token). t.Word x ∷ t.Equals ∷ y)
    (par_lexed a false (44 ∷ par_text b (step_text c (41 ∷ k))) ra (refl, refl, refl, refl)
    ∙ ap (λ (y : List Token). par_token a ∷ t.Comma ∷ y)
    (par_lexed b true (step_text c (41 ∷ k)) rb (step_breaks c (is_one c) (41 ∷ k) (refl, refl, refl, refl))
    ∙ ap (λ (y : List Token). par_token b ∷ y) (step_lexed c (is_one c) (41 ∷ k) rc (refl, refl, refl, refl))))

mutual
  entry_lexed : (e : Entry) (h : Bool) (k : List ℕ) → IsReadableEntry e → IsBreak k → lexed (Clear h) (entry_text e k) ≡ spell_entry e (lexed (Clear false) k)
  entry_lexed (One e) h k fine b = text_lexed e h k fine.1.readable b
  entry_lexed (Many NoEntry x a b' c) h k fine b = absurd fine.0
  entry_lexed (Many (AndEntry e es) x a b' c) h k fine b =
      ap (λ (y : List Token). t.Open ∷ y)
      (entry_lexed e true (more_entries_text es (44 ∷ loop_text x a b' c (41 ∷ k))) fine.0.0 (more_break es (44 ∷ loop_text x a b' c (41 ∷ k)) (refl, refl, refl, refl))
      ∙ ap (spell_entry e)
      (more_lexed es (44 ∷ loop_text x a b' c (41 ∷ k)) fine.0.1 (refl, refl, refl, refl) ∙ ap (λ (y : List Token). more_entries es (t.Comma ∷ y)) (loop_lexed x a b' c k fine.1 fine.2 fine.3 fine.4)))

  more_lexed : (es : Entries) (k : List ℕ) → AreReadableEntries es → IsBreak k → lexed (Clear false) (more_entries_text es k) ≡ more_entries es (lexed (Clear false) k)
  more_lexed NoEntry k all b = refl
  more_lexed (AndEntry e es) k all b =
      ap (λ (y : List Token). t.Comma ∷ y) (entry_lexed e true (more_entries_text es k) all.0 (more_break es k b) ∙ ap (spell_entry e) (more_lexed es k all.1 b))

entries_lexed : (es : Entries) → AreReadableEntries es → lexed (Clear false) (entries_text es []) ≡ spell_entries es []
entries_lexed NoEntry all = refl
entries_lexed (AndEntry e es) all = entry_lexed e false (more_entries_text es []) all.0 (more_break es [] tt) ∙ ap (spell_entry e) (more_lexed es [] all.1 tt)

-- ---- no assignment ----

-- where no cut is made in what follows
abbrev pub IsUncut : ℕ → List Token → Type 0
IsUncut d k = cut is_equals d k ≡ None

never_open : (d : ℕ) → cuts is_equals d t.Open ≡ false
never_open zero = refl
never_open (suc d) = refl

pub uncut_open : (d : ℕ) (k : List Token) → IsUncut (suc d) k → IsUncut d (t.Open ∷ k)
uncut_open d k h = token_then is_equals d t.Open k (λ y. y) None (never_open d) h

pub uncut_close : (d : ℕ) (k : List Token) → IsUncut d k → IsUncut (suc d) (t.Close ∷ k)
uncut_close d k h = ap (fronted (λ front. t.Close ∷ front)) h

never_comma : (d : ℕ) → cuts is_equals d t.Comma ≡ false
never_comma zero = refl
never_comma (suc d) = refl

uncut_comma : (d : ℕ) (k : List Token) → IsUncut d k → IsUncut d (t.Comma ∷ k)
uncut_comma d k h = token_then is_equals d t.Comma k (λ y. y) None (never_comma d) h

uncut_par : (p : Par) (d : ℕ) (k : List Token) → IsUncut (suc d) k → IsUncut (suc d) (par_token p ∷ k)
uncut_par (Constant (pos n)) d k h = ap (fronted (λ front. t.Number n ∷ front)) h
uncut_par (Constant (negsuc n)) d k h = ap (fronted (λ front. t.Strange ∷ front)) h
uncut_par (Named x) d k h = ap (fronted (λ front. t.Word x ∷ front)) h

uncut_step : (c : Par) (one : Bool) (d : ℕ) (k : List Token) → IsUncut (suc d) k → IsUncut (suc d) (cond one k (t.Comma ∷ par_token c ∷ k))
uncut_step c true d k h = h
uncut_step c false d k h = uncut_comma (suc d) (par_token c ∷ k) (uncut_par c d k h)

uncut_control : (x : Text) (a b c : Par) (d : ℕ) (k : List Token) → IsUncut d k → IsUncut (suc d) (t.Comma ∷ t.Word x ∷ t.Equals ∷ par_token a ∷ t.Comma ∷ par_token b ∷ step_then c (t.Close ∷ k))
uncut_control x a b c d k h =
    ap (fronted (λ front. t.Comma ∷ front))
    (ap (fronted (λ front. t.Word x ∷ front))
    (ap (fronted (λ front. t.Equals ∷ front))
    (uncut_par a d (t.Comma ∷ par_token b ∷ step_then c (t.Close ∷ k))
    (uncut_comma (suc d) (par_token b ∷ step_then c (t.Close ∷ k)) (uncut_par b d (step_then c (t.Close ∷ k)) (uncut_step c (is_one c) d (t.Close ∷ k) (uncut_close d k h)))))))

mutual
  uncut_entry : (e : Entry) (d : ℕ) (k : List Token) → IsUncut d k → IsUncut d (spell_entry e k)
  uncut_entry (One e) d k h = cut_spelled is_equals equals_outside e d k ∙ ap (fronted (spell e)) h
  uncut_entry (Many es x a b c) d k h = uncut_open d (spell_entries es (t.Comma ∷ t.Word x ∷ t.Equals ∷ par_token a ∷ t.Comma ∷ par_token b ∷ step_then c (t.Close ∷ k))) (uncut_entries es (suc d) _ (uncut_control x a b c d k h))

  uncut_entries : (es : Entries) (d : ℕ) (k : List Token) → IsUncut d k → IsUncut d (spell_entries es k)
  uncut_entries NoEntry d k h = h
  uncut_entries (AndEntry e es) d k h = uncut_entry e d (more_entries es k) (uncut_more es d k h)

  uncut_more : (es : Entries) (d : ℕ) (k : List Token) → IsUncut d k → IsUncut d (more_entries es k)
  uncut_more NoEntry d k h = h
  uncut_more (AndEntry e es) d k h = uncut_comma d (spell_entry e (more_entries es k)) (uncut_entry e d (more_entries es k) (uncut_more es d k h))

-- ---- the statements ----

abbrev pub record_tokens : Par → ℕ → Entries → List Token
record_tokens u l es = par_token u ∷ t.Comma ∷ t.Number l ∷ t.Close ∷ spell_entries es []

record_lexed : (u : Par) (l : ℕ) (es : Entries) → is_readable_par u ≡ true → IsLabelInRange l → AreReadableEntries es → lexed (Clear true) (par_text u (44 ∷ (decimal l ++ 41 ∷ entries_text es []))) ≡ record_tokens u l es
record_lexed u l es ru small all =
    par_lexed u true (44 ∷ (decimal l ++ 41 ∷ entries_text es [])) ru (refl, refl, refl, refl)
    ∙ ap (λ (y : List Token). par_token u ∷ t.Comma ∷ y)
    (number_begins true l (41 ∷ entries_text es []) small ∙ number_ends true l (41 ∷ entries_text es []) (refl, refl, refl, refl) ∙ ap (λ (y : List Token). t.Number l ∷ t.Close ∷ y) (entries_lexed es all))

record_none : (w : List ℕ) (u : Par) (l : ℕ) (es : Entries) → assignment_of (t.Word w ∷ t.Open ∷ record_tokens u l es) ≡ None
record_none w u l es =
    no_equals (t.Word w ∷ t.Open ∷ record_tokens u l es)
    (ap (fronted (λ front. t.Word w ∷ front))
    (uncut_open 0 (record_tokens u l es)
    (uncut_par u 0 (t.Comma ∷ t.Number l ∷ t.Close ∷ spell_entries es [])
    (uncut_comma 1 (t.Number l ∷ t.Close ∷ spell_entries es []) (ap (fronted (λ front. t.Number l ∷ front)) (uncut_close 0 (spell_entries es []) (uncut_entries es 0 [] refl)))))))

record_is : (made : Par → ℕ → Entries → Act) (u : Par) (l : ℕ) (es : Entries) → is_readable_par u ≡ true → AreReadableEntries es → record_of made (t.Open ∷ record_tokens u l es) ≡ Some (made u l es)
record_is made u l es ru all =
    ap (λ (o : Option Par). then_if o (λ p. then_if (entries_of (spell_entries es [])) (λ list. Some (made p l list)))) (par_is u ru) ∙ ap (λ (o : Option Entries). then_if o (λ list. Some (made u l list))) (entries_spelled es all)

last : (o c : Option Act) (a : Act) → o ≡ None → c ≡ Some a → or_else o c ≡ Some a
last (Some b) c a none is = absurd cc
last None c a none is = is

filed : (o c r : Option Act) (a : Act) → o ≡ None → c ≡ Some a → or_else o (or_else None (or_else (or_else o c) r)) ≡ Some a
filed (Some b) c r a none is = absurd cc
filed None c r a none is = ap (λ (x : Option Act). or_else x r) is

mutual
  entry_known : (e : Entry) (k : List Token) → IsReadableEntry e → AreKnown k → AreKnown (spell_entry e k)
  entry_known (One e) k fine all = spell_known e k all
  entry_known (Many NoEntry x a b c) k fine all = absurd fine.0
  entry_known (Many (AndEntry e es) x a b c) k fine all =
      entry_known e (more_entries es (t.Comma ∷ t.Word x ∷ t.Equals ∷ par_token a ∷ t.Comma ∷ par_token b ∷ step_then c (t.Close ∷ k))) fine.0.0
      (more_known es (t.Comma ∷ t.Word x ∷ t.Equals ∷ par_token a ∷ t.Comma ∷ par_token b ∷ step_then c (t.Close ∷ k)) fine.0.1
      (par_known a (t.Comma ∷ par_token b ∷ step_then c (t.Close ∷ k)) fine.2 (par_known b (step_then c (t.Close ∷ k)) fine.3 (step_known c (is_one c) (t.Close ∷ k) fine.4 all))))

  more_known : (es : Entries) (k : List Token) → AreReadableEntries es → AreKnown k → AreKnown (more_entries es k)
  more_known NoEntry k fine all = all
  more_known (AndEntry e es) k fine all = entry_known e (more_entries es k) fine.0 (more_known es k fine.1 all)

entries_known : (es : Entries) → AreReadableEntries es → AreKnown (spell_entries es [])
entries_known NoEntry fine = refl
entries_known (AndEntry e es) fine = entry_known e (more_entries es []) fine.0 (more_known es [] fine.1 refl)

record_known : (u : Par) (l : ℕ) (es : Entries) → is_readable_par u ≡ true → AreReadableEntries es → AreKnown (t.Open ∷ record_tokens u l es)
record_known u l es ru all = par_known u (t.Comma ∷ t.Number l ∷ t.Close ∷ spell_entries es []) ru (entries_known es all)

pub read_lexed : (u : Par) (l : ℕ) (es : Entries) → is_readable_par u ≡ true → IsLabelInRange l → AreReadableEntries es → tokens_of (statement_text (Read u l es)) ≡ t.Word (codes "READ") ∷ t.Open ∷ record_tokens u l es
read_lexed u l es ru small all = ap (λ (y : List Token). t.Word (codes "READ") ∷ t.Open ∷ y) (record_lexed u l es ru small all)

pub write_lexed : (u : Par) (l : ℕ) (es : Entries) → is_readable_par u ≡ true → IsLabelInRange l → AreReadableEntries es → tokens_of (statement_text (Write u l es)) ≡ t.Word (codes "WRITE") ∷ t.Open ∷ record_tokens u l es
write_lexed u l es ru small all = ap (λ (y : List Token). t.Word (codes "WRITE") ∷ t.Open ∷ y) (record_lexed u l es ru small all)

pub read_branch : (u : Par) (l : ℕ) (es : Entries) → is_readable_par u ≡ true → IsLabelInRange l → AreReadableEntries es → ReadsAsBranch (Read u l es)
read_branch u l es ru small all = record {
  word = codes "READ";
  others = t.Open ∷ record_tokens u l es;
  tokens = read_lexed u l es ru small all;
  known = record_known u l es ru all;
  read = branched (assignment_of (t.Word (codes "READ") ∷ t.Open ∷ record_tokens u l es)) (record_of Read (t.Open ∷ record_tokens u l es)) _ (Read u l es) (record_none (codes "READ") u l es) (record_is Read u l es ru all);
}

pub read_read : (u : Par) (l : ℕ) (es : Entries) → is_readable_par u ≡ true → IsLabelInRange l → AreReadableEntries es → statement_of (tokens_of (statement_text (Read u l es))) ≡ Some (Read u l es)
read_read u l es ru small all =
    ap statement_of (read_lexed u l es ru small all)
    ∙ jumped (assignment_of (t.Word (codes "READ") ∷ t.Open ∷ record_tokens u l es)) (record_of Read (t.Open ∷ record_tokens u l es)) _ _ (Read u l es) (record_none (codes "READ") u l es) (record_is Read u l es ru all)

pub write_branch : (u : Par) (l : ℕ) (es : Entries) → is_readable_par u ≡ true → IsLabelInRange l → AreReadableEntries es → ReadsAsBranch (Write u l es)
write_branch u l es ru small all = record {
  word = codes "WRITE";
  others = t.Open ∷ record_tokens u l es;
  tokens = write_lexed u l es ru small all;
  known = record_known u l es ru all;
  read = last (assignment_of (t.Word (codes "WRITE") ∷ t.Open ∷ record_tokens u l es)) (record_of Write (t.Open ∷ record_tokens u l es)) (Write u l es) (record_none (codes "WRITE") u l es) (record_is Write u l es ru all);
}

pub write_read : (u : Par) (l : ℕ) (es : Entries) → is_readable_par u ≡ true → IsLabelInRange l → AreReadableEntries es → statement_of (tokens_of (statement_text (Write u l es))) ≡ Some (Write u l es)
write_read u l es ru small all =
    ap statement_of (write_lexed u l es ru small all)
    ∙ filed (assignment_of (t.Word (codes "WRITE") ∷ t.Open ∷ record_tokens u l es)) (record_of Write (t.Open ∷ record_tokens u l es)) _ (Write u l es) (record_none (codes "WRITE") u l es) (record_is Write u l es ru all)
