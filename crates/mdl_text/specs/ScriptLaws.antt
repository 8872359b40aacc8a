-- What follows from a script being one: there is one reading, and one line is the first bad one.
use Rattle.std.proofs.Common.{◌≡◌, ◌≢◌, ℕ, ◌+◌, ◌-◌, ◌*◌, ◌^◌, ◌<◌, ◌≤◌, not, true, false, List, [], ◌∷◌, ◌++◌, length, take, codes, refl, sym, ap, ap₂, ◌∙◌, subst, arith, get_or, drop, zero, suc, inl, inr}
use Rattle.std.specs.Char.{digit_value}
use Rattle.std.specs.Fmt.{decimal}
use Rattle.std.specs.Int.{IsInRange}
use Rattle.std.specs.List.{AllZip, AllByRecursion}
use Rattle.std.specs.Str.Lines.{lines}
use Rattle.std.specs.Str.Parse.{AllDigits}
use Rattle.std.proofs.lemmas.Bool.{cases_lt}
use Rattle.std.proofs.lemmas.Fmt.{decimal_is_IsNumeral, decimal_injective}
use Rattle.std.proofs.lemmas.List.{append_cancel_left, append-nil, length-append, take-append-drop}
use Rattle.std.proofs.lemmas.List.Elements.{filter-append}
use Rattle.std.proofs.lemmas.Str.Parse.{digit_from_value}
use Rattle.mdl_state.specs.declared.Event.{Event}
use Rattle.mdl_state.specs.declared.EventKind.{EventKind}
use Rattle.mdl_state.specs.declared.EventKind.TheVariants.{Key, Pulse, Nmi, Reset}
use Rattle.mdl_text.specs.Script.{is_skipped, IsByteText, IsKindText, States, RisesFrom, spoken, most_events, AreScript, Script, IsFirstBad}

-- ---- a line is cut at its first space

-- none of these is that byte
abbrev pub Lacks : ℕ → List ℕ → Type 0
Lacks byte = AllByRecursion (λ c. c ≢ byte)

digits_lack : (ds : List ℕ) → AllDigits 10 ds → Lacks 32 ds
digits_lack [] h = tt
digits_lack (c ∷ cs) h = (λ e. let r : IsInRange 48 57 c = digit_from_value c h.0 in omega (arith, r.0), digits_lack cs h.1)

pub decimal_lacks_space : (n : ℕ) → n ≤ 10 ^ 15 → Lacks 32 (decimal n)
decimal_lacks_space n h = digits_lack (decimal n) (decimal_is_IsNumeral n (omega arith)).0.1

-- what stands before the first such byte, and what behind it
pub one_cut : (byte : ℕ) (a b x y : List ℕ) → Lacks byte a → Lacks byte b → a ++ byte ∷ x ≡ b ++ byte ∷ y → (a ≡ b) × (x ≡ y)
one_cut byte [] [] x y p q e = (refl, cc)
one_cut byte [] (d ∷ b) x y p q e = absurd (q.0 cc)
one_cut byte (c ∷ a) [] x y p q e = absurd (p.0 cc)
one_cut byte (c ∷ a) (d ∷ b) x y p q e =
    let tails : a ++ byte ∷ x ≡ b ++ byte ∷ y = cc in
    let heads : c ≡ d = cc in
    let rest = one_cut byte a b x y p.1 q.1 tails in (ap₂ (λ (n : ℕ) (l : List ℕ). n ∷ l) heads rest.0, rest.1)

-- ---- a line states one event

-- the value of two digits
byte_of : List ℕ → ℕ
byte_of digits = 16 * digit_value (get_or digits 0 0) + digit_value (get_or digits 1 0)

read_byte : (byte : ℕ) (digits : List ℕ) → IsByteText byte digits → byte ≡ byte_of digits
unfolding byte_of
read_byte byte [] h = absurd h
read_byte byte (high ∷ []) h = absurd h
read_byte byte (high ∷ low ∷ []) h = h.2
read_byte byte (high ∷ low ∷ more ∷ rest) h = absurd h

-- texts that begin otherwise are not the same
apart : (text a b : List ℕ) → get_or a 0 0 ≢ get_or b 0 0 → text ≡ a → text ≡ b → ⊥
apart text a b differ e f = differ (ap (λ (l : List ℕ). get_or l 0 0) (sym e ∙ f))

one_kind : (a b : EventKind) (text : List ℕ) → IsKindText a text → IsKindText b text → a ≡ b
one_kind (Key m) (Key n) text (d, e, h) (c, f, g) =
    let same : d ≡ c = append_cancel_left (codes "key ") d c (sym e ∙ f) in
    ap Key (read_byte m d h ∙ (ap byte_of same ∙ sym (read_byte n c g)))
one_kind (Key m) (Pulse n) text (d, e, h) g = absurd (apart text (codes "key " ++ d) (codes "pulse " ++ decimal n) (λ k. omega (arith, k)) e g.0)
one_kind (Key m) Nmi text (d, e, h) g = absurd (apart text (codes "key " ++ d) (codes "nmi") (λ k. omega (arith, k)) e g)
one_kind (Key m) Reset text (d, e, h) g = absurd (apart text (codes "key " ++ d) (codes "reset") (λ k. omega (arith, k)) e g)
one_kind (Pulse m) (Key n) text h (c, f, g) = absurd (apart text (codes "pulse " ++ decimal m) (codes "key " ++ c) (λ k. omega (arith, k)) h.0 f)
one_kind (Pulse m) (Pulse n) text h g =
    ap Pulse (decimal_injective m n (omega (arith, h.2)) (omega (arith, g.2)) (append_cancel_left (codes "pulse ") (decimal m) (decimal n) (sym h.0 ∙ g.0)))
one_kind (Pulse m) Nmi text h g = absurd (apart text (codes "pulse " ++ decimal m) (codes "nmi") (λ k. omega (arith, k)) h.0 g)
one_kind (Pulse m) Reset text h g = absurd (apart text (codes "pulse " ++ decimal m) (codes "reset") (λ k. omega (arith, k)) h.0 g)
one_kind Nmi (Key n) text h (c, f, g) = absurd (apart text (codes "nmi") (codes "key " ++ c) (λ k. omega (arith, k)) h f)
one_kind Nmi (Pulse n) text h g = absurd (apart text (codes "nmi") (codes "pulse " ++ decimal n) (λ k. omega (arith, k)) h g.0)
one_kind Nmi Nmi text h g = refl
one_kind Nmi Reset text h g = absurd (apart text (codes "nmi") (codes "reset") (λ k. omega (arith, k)) h g)
one_kind Reset (Key n) text h (c, f, g) = absurd (apart text (codes "reset") (codes "key " ++ c) (λ k. omega (arith, k)) h f)
one_kind Reset (Pulse n) text h g = absurd (apart text (codes "reset") (codes "pulse " ++ decimal n) (λ k. omega (arith, k)) h g.0)
one_kind Reset Nmi text h g = absurd (apart text (codes "reset") (codes "nmi") (λ k. omega (arith, k)) h g)
one_kind Reset Reset text h g = refl

pub one_event : (line : List ℕ) (a b : Event) → States line a → States line b → a ≡ b
one_event line a b p q =
    let cut = one_cut 32 (decimal a.at) (decimal b.at) p.kind q.kind (decimal_lacks_space a.at p.count) (decimal_lacks_space b.at q.count) (sym p.whole ∙ q.whole) in
    let count : a.at ≡ b.at = decimal_injective a.at b.at (omega (arith, p.count)) (omega (arith, q.count)) cut.0 in
    let kind : a.kind ≡ b.kind = one_kind a.kind b.kind q.kind (subst (IsKindText a.kind) cut.1 p.happens) q.happens in
    ap₂ (λ (at : ℕ) (kind : EventKind). record { at = at; kind = kind }) count kind

-- ---- lines state one list of events

-- the events of some lines, and those of the lines behind them
record Cut (front back : List (List ℕ)) (events : List Event) : Type 0 where
  early : List Event
  late : List Event
  whole : events ≡ early ++ late
  front_stated : AllZip States front early
  back_stated : AllZip States back late

cut : (front back : List (List ℕ)) (events : List Event) → AllZip States (front ++ back) events → Cut front back events
cut [] back events h = record { early = []; late = events; whole = refl; front_stated = tt; back_stated = h }
cut (line ∷ front) back [] h = absurd h
cut (line ∷ front) back (event ∷ events) h =
    let c = cut front back events h.1 in
    record { early = event ∷ c.early; late = c.late; whole = ap (λ (es : List Event). event ∷ es) c.whole; front_stated = (h.0, c.front_stated); back_stated = c.back_stated }

push : (lines : List (List ℕ)) (events : List Event) (line : List ℕ) (event : Event) → AllZip States lines events → States line event → AllZip States (lines ++ line ∷ []) (events ++ event ∷ [])
push [] [] line event h s = (s, tt)
push [] (e ∷ events) line event h s = absurd h
push (l ∷ lines) [] line event h s = absurd h
push (l ∷ lines) (e ∷ events) line event h s = (h.0, push lines events line event h.1 s)

one_list : (lines : List (List ℕ)) (a b : List Event) → AllZip States lines a → AllZip States lines b → a ≡ b
one_list [] [] [] p q = refl
one_list [] [] (y ∷ b) p q = absurd q
one_list [] (x ∷ a) b p q = absurd p
one_list (line ∷ lines) [] b p q = absurd p
one_list (line ∷ lines) (x ∷ a) [] p q = absurd q
one_list (line ∷ lines) (x ∷ a) (y ∷ b) p q = ap₂ (λ (e : Event) (es : List Event). e ∷ es) (one_event line x y p.0 q.0) (one_list lines a b p.1 q.1)

-- ---- counts that do not fall

-- the count of the last event, or n where there is none
abbrev pub count_after : ℕ → List Event → ℕ
count_after n [] = n
count_after n (event ∷ events) = count_after event.at events

rises_in_front : (n : ℕ) (a b : List Event) → RisesFrom n (a ++ b) → RisesFrom n a
rises_in_front n [] b h = tt
rises_in_front n (event ∷ a) b h = (h.0, rises_in_front event.at a b h.1)

rises_on : (n : ℕ) (events : List Event) (event : Event) → RisesFrom n events → count_after n events ≤ event.at → RisesFrom n (events ++ event ∷ [])
rises_on n [] event h l = (l, tt)
rises_on n (e ∷ events) event h l = (h.0, rises_on e.at events event h.1 l)

rose : (n : ℕ) (events : List Event) (event : Event) → RisesFrom n (events ++ event ∷ []) → count_after n events ≤ event.at
rose n [] event h = h.0
rose n (e ∷ events) event h = rose e.at events event h.1

pub count_after-push : (n : ℕ) (events : List Event) (event : Event) → count_after n (events ++ event ∷ []) ≡ event.at
count_after-push n [] event = refl
count_after-push n (e ∷ events) event = count_after-push e.at events event

-- ---- lines that are a script, and a line behind them

-- the line states the event, and a script of these events has room for it
pub record Follows (events : List Event) (line : List ℕ) (event : Event) : Type 0 where
  pub stated : States line event
  pub rising : count_after 0 events ≤ event.at
  pub room : length events < most_events

spoken_skip : (line : List ℕ) → is_skipped line ≡ true → spoken (line ∷ []) ≡ []
spoken_skip line h = rw h refl

spoken_keep : (line : List ℕ) → is_skipped line ≡ false → spoken (line ∷ []) ≡ line ∷ []
spoken_keep line h = rw h refl

spoken-append : (front back : List (List ℕ)) → spoken (front ++ back) ≡ spoken front ++ spoken back
spoken-append front back = filter-append (λ line. not (is_skipped line)) front back

pub skipped_on : (lines : List (List ℕ)) (events : List Event) (line : List ℕ) → AreScript lines events → is_skipped line ≡ true → AreScript (lines ++ line ∷ []) events
skipped_on lines events line h skip = record {
  stated = subst (λ (ls : List (List ℕ)). AllZip States ls events) (sym (spoken-append lines (line ∷ []) ∙ (ap (λ (ls : List (List ℕ)). spoken lines ++ ls) (spoken_skip line skip) ∙ append-nil (spoken lines)))) h.stated;
  rising = h.rising;
  few = h.few;
}

with_line : (lines : List (List ℕ)) (line : List ℕ) → is_skipped line ≡ false → spoken (lines ++ line ∷ []) ≡ spoken lines ++ line ∷ []
with_line lines line keep = spoken-append lines (line ∷ []) ∙ ap (λ (ls : List (List ℕ)). spoken lines ++ ls) (spoken_keep line keep)

pub goes_on : (lines : List (List ℕ)) (events : List Event) (line : List ℕ) (event : Event) → AreScript lines events → is_skipped line ≡ false → Follows events line event → AreScript (lines ++ line ∷ []) (events ++ event ∷ [])
goes_on lines events line event h keep f = record {
  stated = subst (λ (ls : List (List ℕ)). AllZip States ls (events ++ event ∷ [])) (sym (with_line lines line keep)) (push (spoken lines) events line event h.stated f.stated);
  rising = rises_on 0 events event h.rising f.rising;
  few = (let room = f.room in omega (arith, length-append events (event ∷ [])));
}

-- the events of a line and lines before it
one_more : (lines : List (List ℕ)) (events : List Event) (line : List ℕ) (others : List Event) → AllZip States lines events → AllZip States (lines ++ line ∷ []) others → (event : Event) × (others ≡ events ++ event ∷ []) × States line event
one_more lines events line others h g =
    let c = cut lines (line ∷ []) others g in
    let same : c.early ≡ events = one_list lines c.early events c.front_stated h in
    single c.late c.back_stated (c.whole ∙ ap (λ (es : List Event). es ++ c.late) same)
  where
    single : (late : List Event) → AllZip States (line ∷ []) late → others ≡ events ++ late → (event : Event) × (others ≡ events ++ event ∷ []) × States line event
    single [] z e = absurd z
    single (event ∷ []) z e = (event, e, z.0)
    single (event ∷ more ∷ rest) z e = absurd z.1

pub stops : (lines : List (List ℕ)) (events : List Event) (line : List ℕ) → AreScript lines events → is_skipped line ≡ false → ((event : Event) → ¬ (Follows events line event)) → (others : List Event) → ¬ (AreScript (lines ++ line ∷ []) others)
stops lines events line h keep none others s =
    let m = one_more (spoken lines) events line others h.stated (subst (λ (ls : List (List ℕ)). AllZip States ls others) (with_line lines line keep) s.stated) in
    none m.0 (record {
      stated = m.2;
      rising = rose 0 events m.0 (subst (RisesFrom 0) m.1 s.rising);
      room = (let few : length (events ++ m.0 ∷ []) ≤ most_events = subst (λ (es : List Event). length es ≤ most_events) m.1 s.few in omega (arith, length-append events (m.0 ∷ [])));
    })

-- ---- the laws

in_front : (front back : List (List ℕ)) (events : List Event) → AreScript (front ++ back) events → (early : List Event) × AreScript front early
in_front front back events h =
    let c = cut (spoken front) (spoken back) events (subst (λ (ls : List (List ℕ)). AllZip States ls events) (spoken-append front back) h.stated) in (
      c.early,
      record {
        stated = c.front_stated;
        rising = rises_in_front 0 c.early c.late (subst (RisesFrom 0) c.whole h.rising);
        few = (let few : length (c.early ++ c.late) ≤ most_events = subst (λ (es : List Event). length es ≤ most_events) c.whole h.few in omega (arith, length-append c.early c.late));
      },
    )

first_lines : (lines : List (List ℕ)) (n : ℕ) (events : List Event) → AreScript lines events → (early : List Event) × AreScript (take n lines) early
first_lines lines n events h = in_front (take n lines) (drop n lines) events (subst (λ (ls : List (List ℕ)). AreScript ls events) (sym (take-append-drop n lines)) h)

pub none_bad : (bytes : List ℕ) (events : List Event) (n : ℕ) → Script bytes events → ¬ (IsFirstBad bytes n)
none_bad bytes events n h b = let f = first_lines (lines bytes) n events h in b.bad f.0 f.1

pub one_script : (bytes : List ℕ) (a b : List Event) → Script bytes a → Script bytes b → a ≡ b
one_script bytes a b p q = one_list (spoken (lines bytes)) a b p.stated q.stated

take-take : {A : Type 0} (m k : ℕ) (xs : List A) → m ≤ k → take m (take k xs) ≡ take m xs
take-take zero k xs h = refl
take-take (suc m) zero xs h = absurd (omega arith)
take-take (suc m) (suc k) [] h = refl
take-take {A} (suc m) (suc k) (x ∷ xs) h = ap (λ (l : List A). x ∷ l) (take-take m k xs (omega arith))

-- no line is the first bad one before another
not_before : (bytes : List ℕ) (m n : ℕ) → IsFirstBad bytes m → IsFirstBad bytes n → m < n → ⊥
not_before bytes m n p q l =
    let f = first_lines (take (n - 1) (lines bytes)) m q.events q.before in
    let shorter : take m (take (n - 1) (lines bytes)) ≡ take m (lines bytes) = take-take m (n - 1) (lines bytes) (omega arith) in
    p.bad f.0 (subst (λ (ls : List (List ℕ)). AreScript ls f.0) shorter f.1)

pub one_first_bad : (bytes : List ℕ) (m n : ℕ) → IsFirstBad bytes m → IsFirstBad bytes n → m ≡ n
one_first_bad bytes m n p q = elim (cases_lt m n) [ inl l ↦ absurd (not_before bytes m n p q l) | inr l ↦ not_less l ]
  where
    not_less : n ≤ m → m ≡ n
    not_less l = elim (cases_lt n m) [ inl k ↦ absurd (not_before bytes n m q p k) | inr k ↦ omega arith ]
