-- Lemmas on a session: the bytes that were taken, the lines that were answered, and the end.
use Rattle.std.proofs.Common.{◌≡◌, ◌≢◌, ◌<◌, ◌≤◌, ◌+◌, ◌⊎◌, ◌↔◌, ℕ, Bool, true, false, List, [], ◌∷◌, ◌++◌, length, Option, None, Some, Result, Ok, Err, OnOk, OnErr, IfErr, refl, ap, sym, subst, ◌∙◌, arith, inl, inr, length-append}
use Rattle.std.proofs.KnownBytes.{Appends-nil, Appends-trans, Consumes-nil, Consumes-trans, Consumes-kept, prepend_known-nil}
use Rattle.std.proofs.lemmas.List.{append_assoc, append-nil}
use Rattle.std.specs.Io.KnownBytes.{Appends, Consumes, IsAtEnd, Keeps, prepend_known}
use Rattle.std.specs.List.{AllByRecursion}
use Rattle.host_io.specs.declared.host.InSlot.TheVariants as slots
use Rattle.host_io.specs.declared.host.OutSlot.TheVariants as outputs
use Rattle.host_io.specs.declared.host.Slot.{Slot}
use Rattle.host_io.specs.declared.host.Slot.TheVariants.{In, Out}
use Rattle.host_io.specs.Slots.{Same, SameBut}
use Rattle.host_io.specs.Transfers.{IsWhole, IsOver}
use Rattle.mdl_board.specs.Board.{BoardState}
use Rattle.mdl_state.specs.declared.Event.{Event}
use Rattle.mdl_state.specs.Machine.{Machine}
use Rattle.mdl_text.specs.CommandInput.{IsUnbroken, IsCut, ended, kept, text_of}
use Rattle.mdl_text.specs.CommandLine.{IsCommand}
use Rattle.mdl_text.specs.declared.command.Command.{Command}
use Rattle.mdl_text.specs.declared.command.Command.TheVariants as commands
use Rattle.monitor.specs.declared.session.Broken.{Broken}
use Rattle.monitor.specs.declared.session.Broken.TheVariants as ends
use Rattle.monitor.specs.Answers.{Shows, goes_on}
use Rattle.monitor.specs.LineSteps.{AnswersWhole, AnswersSome, AnswersLast}
use Rattle.monitor.specs.Session.{AnswersLine, AnswersLines, Answered, EndsBetween, IsSession, IsBegun, IsBrokenOff, IsTooLong, IsBroken, most_commands}
use Rattle.monitor.specs.Unread.{IsNext}

-- ---- lines

-- bytes with one more behind them
all_more : {X : Type 0} (P : X → Type 0) (xs : List X) (x : X) → AllByRecursion P xs → P x → AllByRecursion P (xs ++ x ∷ [])
all_more P [] x all is = (is, tt)
all_more P (y ∷ ys) x all is = (all.0, all_more P ys x all.1 is)

ended_more : (lines : List (List ℕ)) (last : List ℕ) → ended (lines ++ last ∷ []) ≡ (ended lines ++ last) ++ 10 ∷ []
ended_more [] last = refl
ended_more (line ∷ lines) last =
    let rest = ap (λ (xs : List ℕ). line ++ 10 ∷ xs) (ended_more lines last) in
    rest ∙ sym (append_assoc line (10 ∷ (ended lines ++ last)) (10 ∷ [])) ∙ ap (λ (xs : List ℕ). xs ++ 10 ∷ []) (sym (append_assoc line (10 ∷ ended lines) last))

cut_more : (bytes : List ℕ) (lines : List (List ℕ)) (last : List ℕ) → IsCut bytes lines last → IsCut (bytes ++ 10 ∷ []) (lines ++ last ∷ []) []
cut_more bytes lines last cut = record {
  each = all_more IsUnbroken lines last cut.each cut.open_line;
  open_line = tt;
  whole = ap (λ (xs : List ℕ). xs ++ 10 ∷ []) cut.whole ∙ sym (ended_more lines last) ∙ sym (append-nil (ended (lines ++ last ∷ [])));
}

cut_byte : (bytes : List ℕ) (lines : List (List ℕ)) (last : List ℕ) (byte : ℕ) → byte ≢ 10 → IsCut bytes lines last → IsCut (bytes ++ byte ∷ []) lines (last ++ byte ∷ [])
cut_byte bytes lines last byte differs cut = record {
  each = cut.each;
  open_line = all_more (λ (b : ℕ). b ≢ 10) last byte cut.open_line differs;
  whole = ap (λ (xs : List ℕ). xs ++ byte ∷ []) cut.whole ∙ append_assoc (ended lines) last (byte ∷ []);
}

lines_more : (events : List Event) (lines : List (List ℕ)) (line : List ℕ) (m : Machine BoardState) (stops : List ℕ) (mid : Machine BoardState) (between : List ℕ) (n : Machine BoardState) (now text more : List ℕ)
    → AnswersLines events lines m stops mid between text → AnswersLine events (text_of line) true mid between n now more → AnswersLines events (lines ++ line ∷ []) m stops n now (text ++ more)
lines_more events [] line m stops mid between n now text more all one =
    let (same, stay, none) = all in
    let from = subst (λ (x : Machine BoardState). AnswersLine events (text_of line) true x between n now more) same one in
    let by = subst (λ (xs : List ℕ). AnswersLine events (text_of line) true m xs n now more) stay from in
    (n, now, more, [], by, (refl, refl, refl), ap (λ (xs : List ℕ). xs ++ more) none ∙ sym (append-nil more))
lines_more events (first ∷ lines) line m stops mid between n now text more (one, at, said, rest, answer, others, written) last =
    (one, at, said, rest ++ more, answer, lines_more events lines line one at mid between n now rest more others last, ap (λ (xs : List ℕ). xs ++ more) written ∙ append_assoc said rest more)

-- ---- what is kept of a line

-- it asks for what the line asks for
abbrev pub KeptAsks : Type 0
KeptAsks = (line : List ℕ) (command : Command) → IsCommand (text_of (kept line)) command ↔ IsCommand (text_of line) command

answers_kept : KeptAsks → (events : List Event) (line : List ℕ) (on : Bool) (m : Machine BoardState) (stops : List ℕ) (n : Machine BoardState) (now text : List ℕ)
    → AnswersLine events (text_of (kept line)) on m stops n now text → AnswersLine events (text_of line) on m stops n now text
answers_kept asks events line on m stops n now text (inl (command, is, goes, shows, after)) = inl (command, (asks line command).0 is, goes, shows, after)
answers_kept asks events line on m stops n now text (inr (none, goes, same, stay, written)) = inr ((λ command is. none command ((asks line command).1 is)), goes, same, stay, written)

kept_none : (line : List ℕ) → kept line ≡ [] → line ≡ []
kept_none [] is = refl
kept_none (b ∷ bs) is = absurd (let same = ap (λ (xs : List ℕ). length xs) is in omega (arith, same))

-- ---- between two bytes

-- So many bytes were taken. Each line that has ended is answered, and of the last one this is kept.
pub record Underway (events : List Event) (start n : Machine BoardState) (stops line : List ℕ) (left left_now before now : Option (List ℕ)) (count : ℕ) : Type 0 where
  pub bytes : List ℕ
  pub last : List ℕ
  pub text : List ℕ
  pub answered : Answered events start bytes n stops last text
  pub kept_is : line ≡ kept last
  pub consumed : Consumes left left_now bytes
  pub count_is : length bytes ≡ count
  pub report : Appends before now text

pub at_first : (events : List Event) (start : Machine BoardState) (left before : Option (List ℕ)) (read : List ℕ) → read ≡ [] → Underway events start start [] [] left (prepend_known read left) before before 0
at_first events start left before read none = record {
  bytes = [];
  last = [];
  text = [];
  answered = record { lines = []; is_cut = record { each = tt; open_line = tt; whole = refl }; answers = (refl, refl, refl) };
  kept_is = refl;
  consumed = subst (λ (xs : List ℕ). Consumes left (prepend_known xs left) []) (sym none) (subst (λ (x : Option (List ℕ)). Consumes left x []) (sym (prepend_known-nil left)) (Consumes-nil left));
  count_is = refl;
  report = Appends-nil before;
}

-- a byte of a line
pub with_byte : ((line more : List ℕ) → kept (kept line ++ more) ≡ kept (line ++ more)) → (events : List Event) (start n : Machine BoardState) (stops line line_now : List ℕ) (left left_now left_next before now : Option (List ℕ)) (count byte : ℕ) → byte ≢ 10
    → Consumes left_now left_next (byte ∷ []) → line_now ≡ kept (line ++ byte ∷ []) → Underway events start n stops line left left_now before now count → Underway events start n stops line_now left left_next before now (count + 1)
with_byte pieces events start n stops line line_now left left_now left_next before now count byte differs next is held = record {
  bytes = held.bytes ++ byte ∷ [];
  last = held.last ++ byte ∷ [];
  text = held.text;
  answered = record { lines = held.answered.lines; is_cut = cut_byte held.bytes held.answered.lines held.last byte differs held.answered.is_cut; answers = held.answered.answers };
  kept_is = is ∙ ap (λ (xs : List ℕ). kept (xs ++ byte ∷ [])) held.kept_is ∙ pieces held.last (byte ∷ []);
  consumed = Consumes-trans left left_now left_next held.bytes (byte ∷ []) held.consumed next;
  count_is = (let whole = length-append held.bytes (byte ∷ []) in let count = held.count_is in omega (arith, whole, count));
  report = held.report;
}

-- the answer to the line that has come is the answer to the whole of it
said : KeptAsks → (events : List Event) (start mid n : Machine BoardState) (stops line now : List ℕ) (left left_now before between : Option (List ℕ)) (count : ℕ) (on : Bool) (text : List ℕ)
    → (held : Underway events start mid stops line left left_now before between count) → AnswersLine events (text_of line) on mid stops n now text → AnswersLine events (text_of held.last) on mid stops n now text
said asks events start mid n stops line now left left_now before between count on text held answer =
    answers_kept asks events held.last on mid stops n now text (subst (λ (xs : List ℕ). AnswersLine events (text_of xs) on mid stops n now text) held.kept_is answer)

-- the end of a line behind which the session goes on
pub with_line : KeptAsks → (events : List Event) (start mid n : Machine BoardState) (stops line now : List ℕ) (left left_now left_next before between after : Option (List ℕ)) (count : ℕ) (on : Bool) → on ≡ true
    → Consumes left_now left_next (10 ∷ []) → AnswersWhole events (text_of line) on mid stops n now between after → Underway events start mid stops line left left_now before between count
    → Underway events start n now [] left left_next before after (count + 1)
with_line asks events start mid n stops line now left left_now left_next before between after count on goes next answer held = record {
  bytes = held.bytes ++ 10 ∷ [];
  last = [];
  text = held.text ++ answer.text;
  answered = record {
    lines = held.answered.lines ++ held.last ∷ [];
    is_cut = cut_more held.bytes held.answered.lines held.last held.answered.is_cut;
    answers = lines_more events held.answered.lines held.last start [] mid stops n now held.text answer.text held.answered.answers
        (subst (λ (b : Bool). AnswersLine events (text_of held.last) b mid stops n now answer.text) goes (said asks events start mid n stops line now left left_now before between count on answer.text held answer.answer));
  };
  kept_is = refl;
  consumed = Consumes-trans left left_now left_next held.bytes (10 ∷ []) held.consumed next;
  count_is = (let whole = length-append held.bytes (10 ∷ []) in let count = held.count_is in omega (arith, whole, count));
  report = Appends-trans before between after held.text answer.text held.report answer.report;
}

-- ---- the end

-- what was read is the front of the input
front : (left rest : Option (List ℕ)) (bytes : List ℕ) → Consumes left rest bytes → (more : List ℕ) × IsWhole left (bytes ++ more)
front None rest bytes read = ([], tt)
front (Some xs) None bytes read = absurd read
front (Some xs) (Some ys) bytes read = (ys, sym read)

all_read : (left rest : Option (List ℕ)) (bytes : List ℕ) → Consumes left rest bytes → IsAtEnd rest → IsWhole left bytes
all_read None rest bytes read none = tt
all_read (Some xs) None bytes read none = absurd read
all_read (Some xs) (Some ys) bytes read none = sym (read ∙ ap (λ (zs : List ℕ). bytes ++ zs) none ∙ append-nil bytes)

-- a line behind which the session does not go on is `q`
quit_by : (command : Command) (events : List Event) (line : List ℕ) (m : Machine BoardState) (stops : List ℕ) (n : Machine BoardState) (text : List ℕ) → false ≡ goes_on command → IsCommand line command → Shows command events stops m n text
    → IsCommand line commands.Quit × (n ≡ m) × (text ≡ [])
quit_by (commands.Steps count) events line m stops n text on is shows = absurd cc
quit_by (commands.Trace count) events line m stops n text on is shows = absurd cc
quit_by (commands.Go to) events line m stops n text on is shows = absurd cc
quit_by commands.Continue events line m stops n text on is shows = absurd cc
quit_by (commands.AddStop at) events line m stops n text on is shows = absurd cc
quit_by (commands.DropStop at) events line m stops n text on is shows = absurd cc
quit_by commands.Registers events line m stops n text on is shows = absurd cc
quit_by commands.Screen events line m stops n text on is shows = absurd cc
quit_by (commands.Bytes at count) events line m stops n text on is shows = absurd cc
quit_by (commands.List at count) events line m stops n text on is shows = absurd cc
quit_by commands.Quit events line m stops n text on is shows = (is, shows.0, shows.1)

quits : (events : List Event) (line : List ℕ) (m : Machine BoardState) (stops : List ℕ) (n : Machine BoardState) (now text : List ℕ) → AnswersLine events line false m stops n now text → IsCommand line commands.Quit × (n ≡ m) × (text ≡ [])
quits events line m stops n now text (inl (command, is, on, shows, after)) = quit_by command events line m stops n text on is shows
quits events line m stops n now text (inr (none, on, same, stay, written)) = absurd cc

same_end : (before between after : Option (List ℕ)) (text more : List ℕ) → Appends before between text → Appends between after more → more ≡ [] → Appends before after text
same_end before between after text more one two none =
    let joined = Appends-trans before between after text more one two in
    subst (λ (xs : List ℕ). Appends before after xs) (ap (λ (xs : List ℕ). text ++ xs) none ∙ append-nil text) joined

-- `q`, with its line feed or at the end
quitted : KeptAsks → (events : List Event) (start mid n : Machine BoardState) (stops line now : List ℕ) (left left_now before between after : Option (List ℕ)) (count : ℕ) (rest : List ℕ)
    → (held : Underway events start mid stops line left left_now before between count) → IsWhole left (held.bytes ++ rest) → EndsBetween held.bytes rest
    → AnswersWhole events (text_of line) false mid stops n now between after → IsSession events start n left before after
quitted asks events start mid n stops line now left left_now before between after count rest held whole ends answer =
    let (is, same, empty) = quits events (text_of held.last) mid stops n now answer.text (said asks events start mid n stops line now left left_now before between count false answer.text held answer.answer) in
    record {
      input = held.bytes ++ rest;
      whole = whole;
      text = held.text;
      session = inl (record {
        bytes = held.bytes;
        rest = rest;
        whole = refl;
        ends = ends;
        quit = held.last;
        is_quit = is;
        stops = stops;
        answered = subst (λ (x : Machine BoardState). Answered events start held.bytes x stops held.last held.text) (sym same) held.answered;
      });
      report = same_end before between after held.text answer.text held.report answer.report empty;
    }

pub quit_line : KeptAsks → (events : List Event) (start mid n : Machine BoardState) (stops line now : List ℕ) (left left_now left_next before between after : Option (List ℕ)) (count : ℕ) (on : Bool) → on ≡ false
    → count < most_commands → Underway events start mid stops line left left_now before between count → Consumes left_now left_next (10 ∷ []) → AnswersWhole events (text_of line) on mid stops n now between after → IsSession events start n left before after
quit_line asks events start mid n stops line now left left_now left_next before between after count on ends few held next answer =
    let whole = front left left_next (held.bytes ++ 10 ∷ []) (Consumes-trans left left_now left_next held.bytes (10 ∷ []) held.consumed next) in
    quitted asks events start mid n stops line now left left_now before between after count (10 ∷ whole.0) held
    (subst (IsWhole left) (append_assoc held.bytes (10 ∷ []) whole.0) whole.1) (inr (whole.0, refl, (let is = held.count_is in omega (arith, is, few))))
    (subst (λ (b : Bool). AnswersWhole events (text_of line) b mid stops n now between after) ends answer)

-- the end of the input
pub ended_by : KeptAsks → (events : List Event) (start mid n : Machine BoardState) (stops line now : List ℕ) (left left_now left_next before between after : Option (List ℕ)) (count : ℕ) → count ≤ most_commands
    → Underway events start mid stops line left left_now before between count → Consumes left_now left_next [] × IsAtEnd left_next → AnswersLast events line mid stops n now between after → IsSession events start n left before after
ended_by asks events start mid n stops line now left left_now left_next before between after count few held (next, none) answer =
    let read = subst (Consumes left left_next) (append-nil held.bytes) (Consumes-trans left left_now left_next held.bytes [] held.consumed next) in
    let whole = all_read left left_next held.bytes read none in
    at_end answer whole
  where
    within : length held.bytes ≤ most_commands
    within = let is = held.count_is in omega (arith, is, few)

    open_end : (on : Bool) → IsWhole left held.bytes → (line ≢ []) → AnswersWhole events (text_of line) on mid stops n now between after → IsSession events start n left before after
    open_end true whole some answer = record {
      input = held.bytes;
      whole = whole;
      text = held.text ++ answer.text;
      session = inr (inr (record {
        within = within;
        last = held.last;
        some = (λ is. some (held.kept_is ∙ ap kept is));
        mid = mid;
        stops = stops;
        before = held.text;
        answered = held.answered;
        now = now;
        more = answer.text;
        answer = said asks events start mid n stops line now left left_now before between count true answer.text held answer.answer;
        written = refl;
      }));
      report = Appends-trans before between after held.text answer.text held.report answer.report;
    }
    open_end false whole some answer =
        quitted asks events start mid n stops line now left left_now before between after count [] held (subst (IsWhole left) (sym (append-nil held.bytes)) whole) (inl (refl, within)) answer

    at_end : AnswersLast events line mid stops n now between after → IsWhole left held.bytes → IsSession events start n left before after
    at_end (inl (none, same, still, report)) whole = record {
      input = held.bytes;
      whole = whole;
      text = held.text;
      session = inr (inl (record {
        within = within;
        stops = stops;
        answered = subst (λ (xs : List ℕ). Answered events start held.bytes n stops xs held.text) (kept_none held.last (sym held.kept_is ∙ none))
            (subst (λ (x : Machine BoardState). Answered events start held.bytes x stops held.last held.text) (sym same) held.answered);
      }));
      report = subst (λ (x : Option (List ℕ)). Appends before x held.text) (sym report) held.report;
    }
    at_end (inr (some, (on, answer))) whole = open_end on whole some answer

-- ---- a session that is broken off

pub broken_report : KeptAsks → (events : List Event) (start mid n : Machine BoardState) (stops line now : List ℕ) (left left_now before between after : Option (List ℕ)) (count : ℕ)
    → Underway events start mid stops line left left_now before between count → AnswersSome events (text_of line) mid stops n now between after → IsBrokenOff events start n left before after
broken_report asks events start mid n stops line now left left_now before between after count held answer = record {
  bytes = held.bytes;
  rest = left_now;
  consumed = held.consumed;
  mid = mid;
  stops = stops;
  last = held.last;
  text = held.text;
  answered = held.answered;
  on = answer.on;
  then = now;
  more = answer.text;
  answer = said asks events start mid n stops line now left left_now before between count answer.on answer.text held answer.answer;
  between = between;
  report = held.report;
  part = answer.report;
}

pub broken_input : (events : List Event) (start n : Machine BoardState) (stops line : List ℕ) (left left_now left_next before now : Option (List ℕ)) (count : ℕ)
    → Underway events start n stops line left left_now before now count → Keeps left_now left_next → IsBegun events start n left left_next before now
broken_input events start n stops line left left_now left_next before now count held same = record {
  bytes = held.bytes;
  stops = stops;
  last = held.last;
  text = held.text;
  answered = held.answered;
  consumed = Consumes-kept left left_now left_next held.bytes held.consumed same;
  report = held.report;
}

over : (left left_now left_next : Option (List ℕ)) (bytes : List ℕ) (byte : ℕ) → Consumes left left_now bytes → Consumes left_now left_next (byte ∷ []) → length bytes ≡ most_commands → IsOver most_commands left
over None left_now left_next bytes byte read next count = tt
over (Some xs) None left_next bytes byte read next count = absurd read
over (Some xs) (Some ys) None bytes byte read next count = absurd next
over (Some xs) (Some ys) (Some zs) bytes byte read next count =
    let whole = ap (λ (s : List ℕ). length s) read ∙ length-append bytes ys in
    let more = ap (λ (s : List ℕ). length s) next in
    omega (arith, whole, more, count)

pub too_long : (events : List Event) (start n : Machine BoardState) (stops line : List ℕ) (left left_now left_next before now : Option (List ℕ)) (count byte : ℕ) → count ≡ most_commands
    → Underway events start n stops line left left_now before now count → Consumes left_now left_next (byte ∷ []) → IsTooLong events start n left before now
too_long events start n stops line left left_now left_next before now count byte all held next = record {
  over = over left left_now left_next held.bytes byte held.consumed next (held.count_is ∙ all);
  rest = left_now;
  begun = record {
    bytes = held.bytes;
    stops = stops;
    last = held.last;
    text = held.text;
    answered = held.answered;
    consumed = held.consumed;
    report = held.report;
  };
  count = held.count_is ∙ all;
}

-- ---- what a call answers

-- at the end of the input
pub session_end : {T E : Type 0} (r : Result T E) → KeptAsks → (events others : List Event) (start mid n : Machine BoardState) (stops line now : List ℕ) (left left_now left_next before between after after_read : Option (List ℕ)) (count : ℕ) (next : Option ℕ)
    → count ≤ most_commands → others ≡ events → Underway events start mid stops line left left_now before between count → IsNext next left_now left_next → next ≡ None → after_read ≡ between
    → OnOk r (AnswersLast others line mid stops n now after_read after) → OnOk r (IsSession events start n left before after)
session_end (Err e) asks events others start mid n stops line now left left_now left_next before between after after_read count next few same held taken none kept answer = tt
session_end (Ok x) asks events others start mid n stops line now left left_now left_next before between after after_read count next few same held taken none kept answer =
    ended_by asks events start mid n stops line now left left_now left_next before between after count few held
    (subst (λ (o : Option ℕ). IsNext o left_now left_next) none taken)
    (subst (λ (t : Option (List ℕ)). AnswersLast events line mid stops n now t after) kept (subst (λ (es : List Event). AnswersLast es line mid stops n now after_read after) same answer))

pub broken_end : {T : Type 0} (r : Result T Broken) → KeptAsks → (events others : List Event) (start mid n : Machine BoardState) (stops line now : List ℕ) (left left_now left_new before between after after_read : Option (List ℕ)) (count : ℕ)
    → others ≡ events → Underway events start mid stops line left left_now before between count → after_read ≡ between → IfErr r (λ broken. broken ≡ ends.Report)
    → OnErr r (AnswersSome others (text_of line) mid stops n now after_read after) → IfErr r (λ broken. IsBroken broken events start n left left_new before after)
broken_end (Ok x) asks events others start mid n stops line now left left_now left_new before between after after_read count same held kept is answer = tt
broken_end (Err broken) asks events others start mid n stops line now left left_now left_new before between after after_read count same held kept is answer =
    subst (λ (b : Broken). IsBroken b events start n left left_new before after) (sym is)
    (broken_report asks events start mid n stops line now left left_now before between after count held
    (subst (λ (t : Option (List ℕ)). AnswersSome events (text_of line) mid stops n now t after) kept (subst (λ (es : List Event). AnswersSome es (text_of line) mid stops n now after_read after) same answer)))

-- no count rose, where a read did not fail
pub none_rose : (before now : Slot → ℕ) → now (In slots.Commands) ≡ before (In slots.Commands) → SameBut (In slots.Commands) before now → Same before now
none_rose before now kept others (In slots.Commands) = kept
none_rose before now kept others (In slots.Rom) = others (In slots.Rom) (λ is. cc)
none_rose before now kept others (In slots.Disk) = others (In slots.Disk) (λ is. cc)
none_rose before now kept others (In slots.Script) = others (In slots.Script) (λ is. cc)
none_rose before now kept others (Out slot) = others (Out slot) (λ is. cc)

-- nor where a write did not fail
pub report_kept : (before now : Slot → ℕ) → now (Out outputs.Report) ≡ before (Out outputs.Report) → SameBut (Out outputs.Report) before now → Same before now
report_kept before now kept others (Out outputs.Report) = kept
report_kept before now kept others (Out outputs.Mem) = others (Out outputs.Mem) (λ is. cc)
report_kept before now kept others (Out outputs.Save) = others (Out outputs.Save) (λ is. cc)
report_kept before now kept others (In slot) = others (In slot) (λ is. cc)
