-- A call of `next` on its way: it searches the bytes held for a line end, and then each piece that it reads.
use Rattle.std.proofs.Common.{◌≡◌, ◌==◌, ◌<◌, ◌≤◌, ℕ, suc, ◌+◌, ◌-◌, ◌*◌, ◌||◌, ◌++◌, Bool, true, false, List, [], ◌∷◌, MatchResult, Option}
use Rattle.std.proofs.Common.{Result, None, Some, Ok, Err, length, take, refl, sym, ◌∙◌, ap, subst, arith, append_assoc}
use Rattle.std.proofs.Common.{length-append, ◌⊎◌, inl, inr, IfSome}
use Rattle.std.proofs.lemmas.Bool.{or_parts}
use Rattle.std.proofs.lemmas.List.{append-nil, take_at}
use Rattle.std.proofs.lemmas.List.Folds.{list_any-append}
use Rattle.transyt_io.specs.declared.reader.Line.{Line}
use Rattle.transyt_io.specs.declared.reader.Line.TheVariants.{Text, End}
use Rattle.transyt_io.specs.declared.reader.ReadStop.{ReadStop}
use Rattle.transyt_io.specs.declared.reader.ReadStop.TheVariants.{Fault, TooLong}
use Rattle.transyt_io.specs.Gather.{Gathers, FirstLine, Gives, GoesOn, StopsAfter}
use Rattle.transyt_io.specs.Lines.{line_of, lines, whole, has_end}
use Rattle.transyt_io.specs.Reading.{Reading, AnswerSays, HasRead, StopSays, ReadsLine, most_lines_left}
use Rattle.transyt_io.specs.Streams.{Takes, IsAtEnd}
use Rattle.transyt_io.proofs.Lines.{last_line}
use Rattle.transyt_io.proofs.Reading.{all_given, hand_on, not_both}
use Rattle.transyt_io.proofs.Told.{takes_both, takes_nothing}

-- bytes of which none are kept are none
nothing_kept : (n : ℕ) (xs : List ℕ) → take (suc n) xs ≡ [] → xs ≡ []
nothing_kept n [] none = refl
nothing_kept n (x ∷ xs) none = absurd cc

-- bytes of no length are none
no_bytes : (xs : List ℕ) → length xs ≡ 0 → xs ≡ []
no_bytes [] none = refl
no_bytes (x ∷ xs) none = absurd (omega arith)

-- A call of `next` so far: `back` is what the last read gave. The line has begun with `raw`, and the bytes held come
-- after it.
pub record Searches (old : Reading) (left left_now : Option (List ℕ)) (last last_now : Option ℕ)
    (line held : List ℕ) (taken : ℕ) : Type 0 where
  pub front : List ℕ
  pub back : List ℕ
  pub raw : List ℕ
  pub going : old.ended ≡ false
  pub takes : Takes left left_now (front ++ back)
  pub gathers : Gathers line raw
  pub all : raw ++ held ≡ old.held ++ (front ++ back)
  pub count : taken ≡ old.taken + length (front ++ back)
  pub most : taken ≤ 4194304
  pub read : ((front ≡ []) × (back ≡ []) × (last_now ≡ last))
      ⊎ (IfSome last_now (λ n. n ≡ length back) × (has_end (old.held ++ front) ≡ false))

-- no line ended in the bytes held and those that the call took
pub record Goes (old : Reading) (left left_now : Option (List ℕ)) (line : List ℕ) (taken : ℕ) : Type 0 where
  pub got : List ℕ
  pub going : old.ended ≡ false
  pub takes : Takes left left_now got
  pub gathers : Gathers line (old.held ++ got)
  pub count : taken ≡ old.taken + length got
  pub most : taken ≤ 4194304

-- then the bytes held have no line end, and the source has not ended
module _ {old : Reading} {left left_now : Option (List ℕ)} {line : List ℕ} {taken : ℕ}
    (goes : Goes old left left_now line taken) where
  pub no_line_held : {A : Type 0} → (has_end old.held ≡ true) ⊎ (old.ended ≡ true) → A
  no_line_held (inl ends) =
      let both : (has_end old.held || has_end goes.got) ≡ false =
      sym (list_any-append (λ b. b == 10) old.held goes.got) ∙ goes.gathers.open_yet in
      not_both ends (or_parts (has_end old.held) (has_end goes.got) both).0
  no_line_held (inr over) = not_both over goes.going

-- a call after the end of the source
pub reads_over : (old new : Reading) (left : Option (List ℕ)) (last : Option ℕ) → old.ended ≡ true
    → length old.held ≡ 0 → old.taken ≤ 4194304 → ReadsLine old new left left last last (Ok End)
reads_over old new left last over empty most = record {
  front = [];
  back = [];
  takes = takes_nothing left;
  reads = inl (refl, refl, refl);
  says = λ taken given has_read.
      let all : lines (taken ++ []) ≡ given ++ lines (old.held ++ []) = has_read.to_come true [] (λ _. (refl, refl)) in (
        sym (all ∙ ap (λ (xs : List ℕ). given ++ lines (xs ++ [])) (no_bytes old.held empty) ∙ append-nil given),
        has_read.at_end over,
        omega (arith, has_read.count, ap length (append-nil taken)),
      );
}

-- a call begins with the bytes held
pub searches_held : (old : Reading) (left : Option (List ℕ)) (last : Option ℕ) → old.ended ≡ false
    → old.taken ≤ 4194304 → Searches old left left last last [] old.held old.taken
searches_held old left last going most = record {
  front = [];
  back = [];
  raw = [];
  going = going;
  takes = takes_nothing left;
  gathers = record { first = refl; open_yet = refl };
  all = sym (append-nil old.held);
  count = omega arith;
  most = most;
  read = inl (refl, refl, refl);
}

-- a call so far
module _ {old : Reading} {left left_now : Option (List ℕ)} {last last_now : Option ℕ} {line held : List ℕ} {taken : ℕ}
    (so_far : Searches old left left_now last last_now line held taken) where
  -- no line ended in the bytes held
  pub goes_on : (line_now : List ℕ) → GoesOn line line_now held → Goes old left left_now line_now taken
  goes_on line_now on = record {
    got = so_far.front ++ so_far.back;
    going = so_far.going;
    takes = so_far.takes;
    gathers = subst (λ (xs : List ℕ). Gathers line_now xs) so_far.all (on so_far.raw so_far.gathers);
    count = so_far.count;
    most = so_far.most;
  }

  -- a line that ends in the bytes held is the first of all
  first_of_all : (text rest : List ℕ) (are_last : Bool)
      → ((raw : List ℕ) → Gathers line raw → FirstLine (raw ++ held) text rest are_last)
      → FirstLine (old.held ++ (so_far.front ++ so_far.back)) text rest are_last
  first_of_all text rest are_last ends =
      subst (λ (xs : List ℕ). FirstLine xs text rest are_last) so_far.all (ends so_far.raw so_far.gathers)

  -- it is handed out
  pub reads_line : (new : Reading) (text : List ℕ) (are_last : Bool)
      → ((raw : List ℕ) → Gathers line raw → FirstLine (raw ++ held) text new.held are_last) → new.ended ≡ are_last
      → (are_last ≡ true → IsAtEnd left_now) → new.line ≡ Some text → new.taken ≡ taken
      → ReadsLine old new left left_now last last_now (Ok Text)
  reads_line new text are_last ends ended at_end now total = record {
    front = so_far.front;
    back = so_far.back;
    takes = so_far.takes;
    reads = elim so_far.read [
      | inl none ↦ inl none
      | inr read ↦ inr (
        read.0,
        λ taken given has_read. all_given old left so_far.front taken given so_far.going read.1 has_read,
      )
    ];
    says = λ taken given has_read. (
      text,
      now,
      hand_on old new left left_now (so_far.front ++ so_far.back) text taken given so_far.going
          (λ over. at_end (sym ended ∙ over)) (total ∙ so_far.count)
          (subst (λ (b : Bool). FirstLine (old.held ++ (so_far.front ++ so_far.back)) text new.held b) (sym ended)
          (first_of_all text new.held are_last ends)) has_read,
    );
  }

  -- and fewer may come
  pub fewer : (text rest : List ℕ) (are_last : Bool)
      → ((raw : List ℕ) → Gathers line raw → FirstLine (raw ++ held) text rest are_last)
      → 2 * (4194305 - taken) + length rest < most_lines_left old
  fewer text rest are_last ends =
      let less = (first_of_all text rest are_last ends).less in
      omega (arith, less, so_far.count, so_far.most, length-append old.held (so_far.front ++ so_far.back))

-- a call that reads on
module _ {old : Reading} {left left_now : Option (List ℕ)} {line : List ℕ} {taken : ℕ}
    (so_far : Goes old left left_now line taken) {left_new : Option (List ℕ)} {last_new : Option ℕ} {piece : List ℕ}
    (gives : Gives left_now left_new last_new piece) where
  all_taken : Takes left left_new (so_far.got ++ piece)
  all_taken = takes_both left left_now left_new so_far.got piece so_far.takes gives.takes

  -- the piece is to be searched
  pub searches_piece : (last : Option ℕ) → taken + length piece ≤ 4194304
      → Searches old left left_new last last_new line piece (taken + length piece)
  searches_piece last most = record {
    front = so_far.got;
    back = piece;
    raw = old.held ++ so_far.got;
    going = so_far.going;
    takes = all_taken;
    gathers = so_far.gathers;
    all = append_assoc old.held so_far.got piece;
    count = omega (arith, so_far.count, length-append so_far.got piece);
    most = most;
    read = inr (gives.last_read, so_far.gathers.open_yet);
  }

  -- the call by its meaning for each reader before it
  told : (last : Option ℕ) (new : Reading) (result : Result Line ReadStop)
      → ((taken : List ℕ) (given : List (List ℕ)) → HasRead old left taken given
      → given ≡ whole (taken ++ so_far.got) → MatchResult result
      (AnswerSays new left_new (taken ++ (so_far.got ++ piece)) given) (StopSays (taken ++ (so_far.got ++ piece)) given))
      → ReadsLine old new left left_new last last_new result
  told last new result says =
      let given_all = λ (taken : List ℕ) (given : List (List ℕ)) (has_read : HasRead old left taken given).
      all_given old left so_far.got taken given so_far.going so_far.gathers.open_yet has_read in record {
        front = so_far.got;
        back = piece;
        takes = all_taken;
        reads = inr (gives.last_read, given_all);
        says = λ taken given has_read. says taken given has_read (given_all taken given has_read);
      }

  -- the read stopped
  pub reads_stop : (last : Option ℕ) (new : Reading) (stop : ReadStop) → StopsAfter taken piece stop
      → ReadsLine old new left left_new last last_new (Err stop)
  reads_stop last new Fault nothing = told last new (Err Fault) (λ taken given has_read all.
      let got_all : so_far.got ++ piece ≡ so_far.got =
      ap (λ (xs : List ℕ). so_far.got ++ xs) nothing ∙ append-nil so_far.got in (
        all ∙ ap (λ (xs : List ℕ). whole (taken ++ xs)) (sym got_all),
        omega (arith, ap length got_all, length-append taken (so_far.got ++ piece), has_read.count, so_far.count, so_far.most),
      ))
  reads_stop last new TooLong (full, one) = told last new (Err TooLong) (λ taken given has_read all.
      let parts : taken ++ (so_far.got ++ piece) ≡ (taken ++ so_far.got) ++ piece =
      sym (append_assoc taken so_far.got piece) in
      let first : length (taken ++ so_far.got) ≡ 4194304 =
      omega (arith, length-append taken so_far.got, has_read.count, so_far.count, so_far.most) in (
        omega (arith, ap length parts, length-append (taken ++ so_far.got) piece),
        all ∙ ap whole (sym (ap (take 4194304) parts ∙ take_at (taken ++ so_far.got) piece 4194304 first)),
      ))

  -- the source ended
  module _ (nothing : length piece ≡ 0) where
    -- no line is left
    pub reads_end : (last : Option ℕ) (new : Reading) → IsAtEnd left_new → line ≡ []
        → ReadsLine old new left left_new last last_new (Ok End)
    reads_end last new at_end empty = told last new (Ok End) (λ taken given has_read _.
        let got_all : so_far.got ++ piece ≡ so_far.got =
        ap (λ (xs : List ℕ). so_far.got ++ xs) (no_bytes piece nothing) ∙ append-nil so_far.got in
        let none : old.held ++ (so_far.got ++ piece) ≡ [] =
        ap (λ (xs : List ℕ). old.held ++ xs) got_all
        ∙ nothing_kept 4097 (old.held ++ so_far.got) (sym so_far.gathers.first ∙ empty) in (
          sym (has_read.to_come true (so_far.got ++ piece) (λ over. not_both over so_far.going)
              ∙ ap (λ (xs : List ℕ). given ++ lines xs) none ∙ append-nil given),
          at_end,
          omega (arith, ap length got_all, length-append taken (so_far.got ++ piece), has_read.count, so_far.count, so_far.most),
        ))

    -- a last line is left
    module _ (some : 0 < length line) where
      last_ends : (raw : List ℕ) → Gathers line raw → FirstLine (raw ++ piece) (line_of line) piece true
      last_ends raw gathers =
          last_line raw line piece piece true gathers some (no_bytes piece nothing) (no_bytes piece nothing) refl

      pub reads_last : (last : Option ℕ) (new : Reading) → IsAtEnd left_new → new.ended ≡ true → new.held ≡ piece
          → new.line ≡ Some (line_of line) → new.taken ≡ taken
          → ReadsLine old new left left_new last last_new (Ok Text)
      reads_last last new at_end ended held now total =
          reads_line (searches_piece last (omega (arith, so_far.most))) new (line_of line) true
          (λ raw gathers. rw held (last_ends raw gathers)) ended (λ _. at_end) now (omega (arith, total))

      -- and fewer may come
      pub fewer_last : 2 * (4194305 - taken) + length piece < most_lines_left old
      fewer_last = omega (arith, fewer (searches_piece None (omega (arith, so_far.most))) (line_of line) piece true last_ends)
