-- Lemmas on listings: one more byte of a line, the line of each front, and one more line.
use Rattle.std.proofs.Common.{◌≡◌, ℕ, zero, suc, ◌+◌, ◌-◌, ◌<◌, ◌≤◌, Bool, List, Option, [], ◌∷◌, ◌++◌, length, take, drop, get_or, codes, refl, ap, sym, subst, ◌∙◌, arith, append_assoc, append-nil, add-one, zero-add, add-zero}
use Rattle.std.proofs.lemmas.List.{length-take-le, length-drop, drop-drop, drop_all}
use Rattle.std.proofs.Math.Seq.{take-length}
use Rattle.std.proofs.KnownBytes.{Appends-trans}
use Rattle.std.specs.Io.KnownBytes.{Appends}
use Rattle.host_io.specs.Prefixes.{prefix_then}
use Rattle.host_io.specs.Transfers.{AppendsPrefix}
use Rattle.mdl_insn.specs.declared.instruction.Insn.{Insn}
use Rattle.mdl_insn.specs.Text.{hex, print_text}
use Rattle.mdl_insn.specs.Listing.{Whole, Undefined, TooLong, Short, bytes_text, Lists, IsListing}
use Rattle.insn_decode.specs.Slices.{TakesFront, UndefinedAt, LongAt, ShortAt}
use Rattle.reports.specs.Lines.{IsLine, IsBegun, AppendsLines, AppendsListing, AppendsListingPrefix}

bytes_text_more : (bytes : List ℕ) (n : ℕ) → n < length bytes → bytes_text (take (suc n) bytes) ≡ bytes_text (take n bytes) ++ hex 2 (get_or bytes n 0)
bytes_text_more [] n lt = absurd (omega (arith, lt))
bytes_text_more (b ∷ bytes) zero lt = append-nil (hex 2 b)
bytes_text_more (b ∷ bytes) (suc n) lt =
    ap (λ (z : List ℕ). hex 2 b ++ z) (bytes_text_more bytes n (omega (arith, lt)))
    ∙ sym (append_assoc (hex 2 b) (bytes_text (take n bytes)) (hex 2 (get_or bytes n 0)))

-- a text with one more byte
pub byte_more : (text now : List ℕ) (bytes : List ℕ) (n : ℕ) → n < length bytes → now ≡ (text ++ bytes_text (take n bytes)) ++ hex 2 (get_or bytes n 0) → now ≡ text ++ bytes_text (take (n + 1) bytes)
byte_more text now bytes n lt is = rw add-one (is ∙ append_assoc text (bytes_text (take n bytes)) (hex 2 (get_or bytes n 0))
    ∙ ap (λ (z : List ℕ). text ++ z) (sym (bytes_text_more bytes n lt)))

-- ---- lines

-- a line with these bytes and this text
abbrev Writes : ℕ → List ℕ → List ℕ → List ℕ → Type 0
Writes at bytes name text = text ≡ hex 8 at ++ codes " " ++ bytes_text bytes ++ codes " " ++ name ++ 0x0A ∷ []

named : (at : ℕ) (bytes name other text : List ℕ) → Writes at bytes name text → name ≡ other → Writes at bytes other text
named at bytes name other text writes is = subst (λ (z : List ℕ). Writes at bytes z text) is writes

pub whole_line : (bytes : List ℕ) (big : Bool) (at : ℕ) (insn : Insn) (n k : ℕ) (name text : List ℕ) (count : ℕ) → TakesFront bytes big insn n → k ≡ n → Writes at (take k bytes) name text → name ≡ print_text insn (at + n) → count ≡ length (take k bytes) → IsLine bytes big at text count
whole_line bytes big at insn n k name text count takes same writes is covers = record {
  front = Whole insn n;
  stands = (takes.inside, takes.within, takes.spelt);
  line = named at (take n bytes) name (print_text insn (at + n)) text (subst (λ (i : ℕ). Writes at (take i bytes) name text) same writes) is;
  count = covers ∙ ap (λ (i : ℕ). length (take i bytes)) same ∙ length-take-le n bytes takes.inside;
}

pub undefined_line : (bytes : List ℕ) (big : Bool) (at : ℕ) (text : List ℕ) (count : ℕ) → UndefinedAt bytes big → Writes at (take 1 bytes) (codes "undefined") text → count ≡ length (take 1 bytes) → IsLine bytes big at text count
undefined_line bytes big at text count u writes covers = record {
  front = Undefined;
  stands = (u.at, u.inside, u.within, u.begun, u.not_begun, u.not_spelt);
  line = writes;
  count = covers ∙ length-take-le 1 bytes (omega (arith, u.inside));
}

pub long_line : (bytes : List ℕ) (big : Bool) (at : ℕ) (text : List ℕ) (count : ℕ) → LongAt bytes big → Writes at (take 1 bytes) (codes "too long") text → count ≡ length (take 1 bytes) → IsLine bytes big at text count
long_line bytes big at text count l writes covers = record {
  front = TooLong;
  stands = (l.inside, l.begun);
  line = writes;
  count = covers ∙ length-take-le 1 bytes (omega (arith, l.inside));
}

pub short_line : (bytes : List ℕ) (big : Bool) (at : ℕ) (text : List ℕ) (count : ℕ) → ShortAt bytes big → Writes at bytes (codes "short") text → count ≡ length bytes → IsLine bytes big at text count
short_line bytes big at text count s writes covers = record {
  front = Short;
  stands = (s.within, s.begun);
  line = subst (λ (z : List ℕ). Writes at z (codes "short") text) (sym (take-length bytes)) writes;
  count = covers;
}

-- ---- listings

-- no line yet
pub none_begun : (bytes : List ℕ) (from : ℕ) (big : Bool) → IsBegun bytes from big 0 from []
none_begun bytes from big more rest lists = rw zero-add lists

lists_more : (big : Bool) (more at n : ℕ) (bytes line rest : List ℕ) → 0 < length bytes → IsLine bytes big at line n → Lists big more (at + n) (drop n bytes) rest → Lists big (suc more) at bytes (line ++ rest)
lists_more big more at n [] line rest some is lists = absurd (omega (arith, some))
lists_more big more at n (b ∷ bytes) line rest some is lists = (
  is.front,
  rest,
  is.stands,
  ap (λ (z : List ℕ). z ++ rest) is.line,
  subst (λ (k : ℕ). Lists big more (at + k) (drop k (b ∷ bytes)) rest) is.count lists,
)

-- one more line
pub line_begun : (bytes : List ℕ) (from : ℕ) (big : Bool) (lines at n : ℕ) (text line : List ℕ) → at < length bytes → IsBegun bytes from big lines at text → IsLine (drop at bytes) big at line n → IsBegun bytes from big (lines + 1) (at + n) (text ++ line)
line_begun bytes from big lines at n text line inside begun is more rest lists =
    let more_lists = lists_more big more at n (drop at bytes) line rest (omega (arith, inside, length-drop at bytes)) is (subst (λ (z : List ℕ). Lists big more (at + n) z rest) (sym (drop-drop n at bytes)) lists) in
    let whole = begun (suc more) (line ++ rest) more_lists in
    subst (λ (z : List ℕ). IsListing bytes from (lines + 1 + more) big z) (sym (append_assoc text line rest))
    (subst (λ (k : ℕ). IsListing bytes from k big (text ++ (line ++ rest))) (omega arith) whole)

-- the lines so far are a listing
pub lines_listed : (bytes : List ℕ) (from : ℕ) (big : Bool) (lines at : ℕ) (text : List ℕ) → IsBegun bytes from big lines at text → IsListing bytes from lines big text
lines_listed bytes from big lines at text begun =
    subst (λ (z : List ℕ). IsListing bytes from lines big z) (append-nil text)
    (subst (λ (k : ℕ). IsListing bytes from k big (text ++ [])) (add-zero lines) (begun 0 [] refl))

no_lines : (big : Bool) (more at : ℕ) → Lists big more at [] []
no_lines big zero at = refl
no_lines big (suc more) at = refl

-- at the end of the bytes they are the whole listing
pub end_listed : (bytes : List ℕ) (from count : ℕ) (big : Bool) (lines at : ℕ) (text : List ℕ) → length bytes ≤ at → lines ≤ count → IsBegun bytes from big lines at text → IsListing bytes from count big text
end_listed bytes from count big lines at text end fewer begun =
    let nothing : drop at bytes ≡ [] = drop_all at bytes end in
    let whole = begun (count - lines) [] (subst (λ (z : List ℕ). Lists big (count - lines) at z []) (sym nothing) (no_lines big (count - lines) at)) in
    subst (λ (z : List ℕ). IsListing bytes from count big z) (append-nil text)
    (subst (λ (k : ℕ). IsListing bytes from k big (text ++ [])) (omega (arith, fewer)) whole)

-- ---- what an output takes

pub more_lines : (bytes : List ℕ) (from : ℕ) (big : Bool) (lines at n : ℕ) (before between now : Option (List ℕ)) (line : List ℕ) → AppendsLines bytes from big lines at before between → at < length bytes → IsLine (drop at bytes) big at line n → Appends between now line → AppendsLines bytes from big (lines + 1) (at + n) before now
more_lines bytes from big lines at n before between now line so_far inside is appended = record {
  text = so_far.text ++ line;
  begun = line_begun bytes from big lines at n so_far.text line inside so_far.begun is;
  report = Appends-trans before between now so_far.text line so_far.report appended;
}

pub cut_lines : (bytes : List ℕ) (from count : ℕ) (big : Bool) (lines at n : ℕ) (before between now : Option (List ℕ)) (line : List ℕ) → AppendsLines bytes from big lines at before between → at < length bytes → lines < count → IsLine (drop at bytes) big at line n → AppendsPrefix between now line → AppendsListingPrefix bytes from count big before now
cut_lines bytes from count big lines at n before between now line so_far inside fewer is cut = record {
  lines = lines + 1;
  within = omega (arith, fewer);
  text = so_far.text ++ line;
  listing = lines_listed bytes from big (lines + 1) (at + n) (so_far.text ++ line) (line_begun bytes from big lines at n so_far.text line inside so_far.begun is);
  report = prefix_then before between now so_far.text line so_far.report cut;
}

pub all_lines : (bytes : List ℕ) (from count : ℕ) (big : Bool) (lines at : ℕ) (before now : Option (List ℕ)) → AppendsLines bytes from big lines at before now → lines ≡ count → AppendsListing bytes from count big before now
all_lines bytes from count big lines at before now so_far whole = record {
  text = so_far.text;
  listing = subst (λ (k : ℕ). IsListing bytes from k big so_far.text) whole (lines_listed bytes from big lines at so_far.text so_far.begun);
  report = so_far.report;
}

pub last_lines : (bytes : List ℕ) (from count : ℕ) (big : Bool) (lines at : ℕ) (before now : Option (List ℕ)) → AppendsLines bytes from big lines at before now → length bytes ≤ at → lines ≤ count → AppendsListing bytes from count big before now
last_lines bytes from count big lines at before now so_far end fewer = record {
  text = so_far.text;
  listing = end_listed bytes from count big lines at so_far.text end fewer so_far.begun;
  report = so_far.report;
}
