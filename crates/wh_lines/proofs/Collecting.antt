-- A section that is collected part by part.
use Rattle.std.proofs.Common.{◌≡◌, ◌≤◌, ◌<◌, ◌+◌, ◌-◌, ℕ, List, [], ◌∷◌, ◌++◌, length, take, drop, refl, sym, ap, ◌∙◌, arith, subst, append_assoc, append-nil, Bool, true, false, nat_lt, inl, inr, ltb-true, ltb-false}
use Rattle.std.specs.List.{position_or_len, before_first, after_first, AllByRecursion}
use Rattle.std.proofs.lemmas.List.{take_all, drop_all, take-append-le, drop-append-le, take-append-drop, length-append, length-take, length-drop}
use Rattle.std.proofs.KnownBytes.{Consumes-trans, Consumes-kept}
use Rattle.std.specs.Io.KnownBytes.{Keeps, IsAtEnd}
use Rattle.wh_text.specs.Lines.{is_line_feed, lines_of, without_cr, IsLine}
use Rattle.wh_text.proofs.CutLemmas.{lines-feed, lines-last}
use Rattle.wh_lines.specs.Text.{is_separator, EndsLine}
use Rattle.wh_lines.specs.Input.{Input, left, with_waiting, Takes, part_len}
use Rattle.wh_lines.specs.Section.{HasNoMark, Collects, Closed, Overflows}
use Rattle.wh_lines.proofs.Parts.{before_plain, plain_append, around_first, none_before, part_taken}
use Rattle.wh_lines.proofs.Cuts.{whole_next, long_unmarked}

abbrev pub NoMarks : List (List ℕ) → Type 0
NoMarks lines = AllByRecursion (λ line. is_separator line ≡ false) lines

-- a line as it came, which stands between two sections
abbrev pub is_mark : List ℕ → Bool
is_mark line = is_separator (without_cr line)

pub marks_append : (xs ys : List (List ℕ)) → NoMarks xs → NoMarks ys → NoMarks (xs ++ ys)
marks_append [] ys p q = q
marks_append (x ∷ xs) ys p q = (p.0, marks_append xs ys p.1 q)

unmarked_last : (front line : List ℕ) → EndsLine front → HasNoMark front → IsLine line → is_mark line ≡ false → HasNoMark (front ++ line)
unmarked_last front [] ends none p m = subst NoMarks (ap lines_of (sym (append-nil front))) none
unmarked_last front (b ∷ line) ends none p m =
    subst NoMarks (sym (ends (b ∷ line))) (marks_append (lines_of front) (lines_of (b ∷ line)) none (subst NoMarks (sym (lines-last (b ∷ line) p (omega arith))) (m, tt)))

unmarked_whole : (front line : List ℕ) → EndsLine front → HasNoMark front → IsLine line → is_mark line ≡ false → HasNoMark (front ++ (line ++ 10 ∷ []))
unmarked_whole front line ends none p m =
    let text = line ++ 10 ∷ [] in
    subst NoMarks (sym (ends text)) (marks_append (lines_of front) (lines_of text) none (subst NoMarks (sym (lines-feed line [] p)) (m, tt)))

part_whole : (w : List ℕ) → nat_lt (position_or_len is_line_feed w) (length w) ≡ true → take (part_len w) w ≡ before_first is_line_feed w ++ 10 ∷ []
part_whole w e =
    let n = position_or_len is_line_feed w in
    let front = before_first is_line_feed w ++ 10 ∷ [] in
    let within : n < length w = ltb-true n (length w) e in
    let long : length front ≡ n + 1 = omega (arith, length-append (before_first is_line_feed w) (10 ∷ []), length-take n w, within) in
    let all : w ≡ front ++ after_first is_line_feed w = around_first w e ∙ sym (append_assoc (before_first is_line_feed w) (10 ∷ []) (after_first is_line_feed w)) in
    ap (take (n + 1)) all ∙ take-append-le (n + 1) front (after_first is_line_feed w) (omega (arith, long)) ∙ take_all (n + 1) front (omega (arith, long))

part_begun : (w : List ℕ) → nat_lt (position_or_len is_line_feed w) (length w) ≡ false → take (part_len w) w ≡ w
part_begun w e = take_all (part_len w) w (omega (arith, ltb-false (position_or_len is_line_feed w) (length w) e))

module _ (i j k : Input) (text : List ℕ) (start : ℕ) (f : Collects i j text start) (within : start ≤ length text) (refilled : Keeps (left j) (left k)) where
  abbrev front : List ℕ
  front = take start text

  abbrev begun : List ℕ
  begun = drop start text

  -- at the end of the input
  pub sectioned_mark : (has : List ℕ) → IsAtEnd (left k) → is_mark begun ≡ true → has ≡ front → Closed false i k has
  sectioned_mark has end mark e = subst (λ l. Closed false i k l) (sym e) (record {
    mark = begun;
    takes = subst (λ l. Takes i k l) (sym (take-append-drop start text)) (Consumes-kept (left i) (left j) (left k) text f.takes refilled);
    unmarked = f.unmarked;
    closes = (f.ends, begun, mark, inr (refl, end));
  })

  unmarked_text : is_mark begun ≡ false → HasNoMark text
  unmarked_text m = subst HasNoMark (take-append-drop start text) (unmarked_last front begun f.ends f.unmarked f.plain m)

  pub sectioned_end : IsAtEnd (left k) → is_mark begun ≡ false → Closed true i k text
  sectioned_end end m = record {
    mark = [];
    takes = subst (λ l. Takes i k l) (sym (append-nil text)) (Consumes-kept (left i) (left j) (left k) text f.takes refilled);
    unmarked = unmarked_text m;
    closes = (refl, end);
  }

  pub overflows_end : (limit : ℕ) → IsAtEnd (left k) → is_mark begun ≡ false → limit < length text → Overflows i k limit
  overflows_end limit end m over = record { bytes = text; takes = Consumes-kept (left i) (left j) (left k) text f.takes refilled; unmarked = unmarked_text m; settled = inr (inl end); over = over }

  module _ (m : Input) (has : List ℕ) (whole : Bool) (has_is : has ≡ text ++ take (part_len k.waiting) k.waiting) (m_is : m ≡ with_waiting k (drop (part_len k.waiting) k.waiting))
      (whole_is : whole ≡ nat_lt (position_or_len is_line_feed k.waiting) (length k.waiting)) where
    abbrev part : List ℕ
    part = take (part_len k.waiting) k.waiting

    abbrev line : List ℕ
    line = begun ++ before_first is_line_feed k.waiting

    taken_next : Takes i m has
    taken_next = subst (λ (x : Input). Takes i x has) (sym m_is) (subst (λ l. Takes i (with_waiting k (drop (part_len k.waiting) k.waiting)) l) (sym has_is)
        (Consumes-trans (left i) (left k) (left (with_waiting k (drop (part_len k.waiting) k.waiting))) text part (Consumes-kept (left i) (left j) (left k) text f.takes refilled)
        (part_taken k.waiting part (drop (part_len k.waiting) k.waiting) k.source (sym (take-append-drop (part_len k.waiting) k.waiting)))))

    front_next : take start has ≡ front
    front_next = ap (take start) has_is ∙ take-append-le start text part within

    begun_next : drop start has ≡ begun ++ part
    begun_next = ap (drop start) has_is ∙ drop-append-le start text part within

    line_plain : IsLine line
    line_plain = plain_append begun (before_first is_line_feed k.waiting) f.plain (before_plain k.waiting)

    has_whole : whole ≡ true → has ≡ front ++ (line ++ 10 ∷ [])
    has_whole e =
        has_is ∙ ap (λ l. text ++ l) (part_whole k.waiting (sym whole_is ∙ e)) ∙ ap (λ l. l ++ (before_first is_line_feed k.waiting ++ 10 ∷ [])) (sym (take-append-drop start text))
        ∙ append_assoc front begun (before_first is_line_feed k.waiting ++ 10 ∷ []) ∙ ap (λ l. front ++ l) (sym (append_assoc begun (before_first is_line_feed k.waiting) (10 ∷ [])))

    -- the line that the code looks at
    pub line_is : whole ≡ true → take (length has - 1 - start) (drop start has) ≡ line
    line_is e =
        let split : drop start has ≡ line ++ 10 ∷ [] = begun_next ∙ ap (λ l. begun ++ l) (part_whole k.waiting (sym whole_is ∙ e)) ∙ sym (append_assoc begun (before_first is_line_feed k.waiting) (10 ∷ [])) in
        let long : length has - 1 - start ≡ length line = omega (arith, length-drop start has, ap length split, length-append line (10 ∷ [])) in
        ap (λ n. take n (drop start has)) long ∙ ap (take (length line)) split ∙ take-append-le (length line) line (10 ∷ []) (omega arith) ∙ take_all (length line) line (omega arith)

    pub sectioned_whole : (text : List ℕ) → whole ≡ true → is_mark line ≡ true → text ≡ take start has → Closed false i m text
    sectioned_whole text e mark t = subst (λ l. Closed false i m l) (sym (t ∙ front_next)) (record {
      mark = line ++ 10 ∷ [];
      takes = subst (λ l. Takes i m l) (has_whole e) taken_next;
      unmarked = f.unmarked;
      closes = (f.ends, line, mark, inl refl);
    })

    unmarked_has : whole ≡ true → is_mark line ≡ false → HasNoMark has
    unmarked_has e plain_line = subst HasNoMark (sym (has_whole e)) (unmarked_whole front line f.ends f.unmarked line_plain plain_line)

    pub overflows_whole : (limit : ℕ) → whole ≡ true → is_mark line ≡ false → limit < length has → Overflows i m limit
    overflows_whole limit e plain_line over = record {
      bytes = has;
      takes = taken_next;
      unmarked = unmarked_has e plain_line;
      settled = inl (subst EndsLine (sym (has_whole e)) (whole_next front line f.ends line_plain));
      over = over;
    }

    pub collects_whole : whole ≡ true → is_mark line ≡ false → Collects i m has (length has)
    collects_whole e plain_line =
        let all = take_all (length has) has (omega arith) in
        record {
          takes = taken_next;
          ends = subst EndsLine (sym (all ∙ has_whole e)) (whole_next front line f.ends line_plain);
          plain = subst IsLine (sym (drop_all (length has) has (omega arith))) tt;
          unmarked = subst HasNoMark (sym all) (unmarked_has e plain_line);
        }

    begun_plain : whole ≡ false → IsLine (begun ++ part)
    begun_plain e = plain_append begun part f.plain (subst IsLine (none_before k.waiting (sym whole_is ∙ e) ∙ sym (part_begun k.waiting (sym whole_is ∙ e))) (before_plain k.waiting))

    pub collects_begun : whole ≡ false → Collects i m has start
    collects_begun e = record {
      takes = taken_next;
      ends = subst EndsLine (sym front_next) f.ends;
      plain = subst IsLine (sym begun_next) (begun_plain e);
      unmarked = subst HasNoMark (sym front_next) f.unmarked;
    }

    pub overflows_begun : (limit : ℕ) → whole ≡ false → start ≤ limit → limit + 3 < length has → Overflows i m limit
    overflows_begun limit e low over =
        let split : front ++ (begun ++ part) ≡ has = sym (append_assoc front begun part) ∙ ap (λ l. l ++ part) (take-append-drop start text) ∙ sym has_is in
        let long : 3 < length (begun ++ part) = omega (arith, length-drop start has, ap length begun_next, over, low) in
        record {
          bytes = has;
          takes = taken_next;
          unmarked = subst HasNoMark split (unmarked_last front (begun ++ part) f.ends f.unmarked (begun_plain e) (long_unmarked (begun ++ part) long));
          settled = inr (inr (start, subst IsLine (sym begun_next) (begun_plain e), omega (arith, long, ap length begun_next)));
          over = omega (arith, over);
        }

-- what the code saw of the begun line
pub seen_begun : (result b : Bool) (seen text : List ℕ) (start : ℕ) → result ≡ is_mark (take (length seen - start) (drop start seen)) → seen ≡ text → result ≡ b → is_mark (drop start text) ≡ b
seen_begun result b seen text start v w m =
    let same : take (length seen - start) (drop start seen) ≡ drop start text = take_all (length seen - start) (drop start seen) (omega (arith, length-drop start seen)) ∙ ap (drop start) w in
    sym (ap is_mark same) ∙ sym v ∙ m

-- and of a whole line without its line feed
pub seen_whole : (result b : Bool) (seen text whole_line : List ℕ) (start long : ℕ) → result ≡ is_mark (take (long - 1 - start) (drop start seen)) → seen ≡ text → long ≡ length text
    → take (length text - 1 - start) (drop start text) ≡ whole_line → result ≡ b → is_mark whole_line ≡ b
seen_whole result b seen text whole_line start long v w l same m =
    sym (ap is_mark (ap (λ n. take (n - 1 - start) (drop start seen)) l ∙ ap (λ s. take (length text - 1 - start) (drop start s)) w ∙ same)) ∙ sym v ∙ m
