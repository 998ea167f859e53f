-- The end of a text that is read as a net text: nothing after it, or an extra line. Assumes nothing.
use Rattle.std.proofs.Common.{◌≡◌, ℕ, suc, ◌+◌, ◌≤◌, List, [], ◌∷◌, ◌++◌, map, length, sym, refl, ap, ◌∙◌, subst, arith}
use Rattle.std.proofs.lemmas.List.{append_assoc, append-nil, length_push}
use Rattle.theory.specs.Nets.{Net}
use Rattle.theory.specs.Places.{Place}
use Rattle.texts.specs.Faults as F
use Rattle.texts.specs.Forms.{in_body, Formed}
use Rattle.texts.specs.Limits.{text_limit}
use Rattle.texts.specs.Lines.{line_feed, text_of, line}
use Rattle.texts.specs.NetFaults.{NetBody, counts_places, is_place, ends, NetFormed, FirstFault}
use Rattle.texts.specs.NetText.{net_opening, net_end, places_line, place_line, net_lines, net_text, Named}
use Rattle.texts.proofs.Bytes.{free_tested}
use Rattle.texts.proofs.Forms.{at_body, Done, done_more}
use Rattle.texts.proofs.Further.{formed_more, further, nothing_left}
use Rattle.texts.proofs.Heads.{head_lines}
use Rattle.texts.proofs.NetStages.{PlacesRead, places_done, places_count, formed_places, different_places, same, whole_same}
use Rattle.texts.proofs.Whole.{whole}

-- the net that has been read
abbrev pub net_read : ℕ → ℕ → List Place → Net
net_read k n places = record { order = k; styles = n; places = places }

module _ {k n p : ℕ} {names : List (List ℕ)} {places : List Place} {text rest : List ℕ} (read : PlacesRead k n p names places text rest) (all : length places ≡ p) where
  pub named_read : Named (net_read k n places) names
  named_read = record {
    proper = record {
      order_from_two = read.head.wheel_good.from_two;
      order_to_nine = read.head.wheel_good.to_nine;
      some_style = read.head.styles_good.some;
      few_styles = read.head.styles_good.few;
      few_places = omega (arith, read.few_places, all);
      each_place = read.good;
    };
    sheet = record { formed = read.head.named; different = read.head.different };
    one_name_each = read.all_names;
  }

  abbrev lines_read : List (List ℕ)
  lines_read = head_lines net_opening k n names ++ (places_line p ∷ map place_line places)

  -- with the end line, these are the lines of the net's text
  lines_are : lines_read ++ (net_end ∷ []) ≡ net_lines (net_read k n places) names
  lines_are =
      append_assoc (head_lines net_opening k n names) (places_line p ∷ map place_line places) (net_end ∷ [])
      ∙ ap (λ m. head_lines net_opening k n names ++ (places_line m ∷ (map place_line places ++ (net_end ∷ [])))) (sym all)

  module _ {after : List ℕ} (end : rest ≡ net_end ++ (line_feed ∷ after)) where
    end_done : Done text (lines_read ++ (net_end ∷ [])) after
    end_done = done_more (places_done read) net_end after end (free_tested net_end refl)

    pub whole_read : after ≡ [] → text ≡ net_text (net_read k n places) names
    whole_read none = end_done.is ∙ ap (λ r. text_of (lines_read ++ (net_end ∷ [])) ++ r) none ∙ append-nil (text_of (lines_read ++ (net_end ∷ []))) ∙ ap text_of lines_are

    end_count : length (lines_read ++ (net_end ∷ [])) ≡ 5 + n + p
    end_count = omega (arith, length_push lines_read net_end, places_count read, all)

    formed_end : NetFormed k n p text (5 + n + p)
    formed_end =
        let count : length lines_read ≡ 4 + n + p = omega (arith, places_count read, all) in
        let next = further (4 + n + p) net_end after (places_done read) count end (free_tested net_end refl) in
        let before = subst (Formed net_opening (NetBody k n p) k n text) (ap (λ m. 4 + n + m) all) (formed_places read).formed in
        let formed = formed_more before next.there (in_body {s = suc p} (omega arith) (ends refl next.here)) in
        record { few_places = read.few_places; formed = subst (Formed net_opening (NetBody k n p) k n text) (omega arith) formed }

    pub fault_extra : length text ≤ text_limit → (after ≡ [] → ⊥) → FirstFault k text (F.form (suc (5 + n + p)))
    fault_extra short some = (
      short,
      record {
        before = 5 + n + p;
        counted = refl;
        in_order = (n, p, formed_end, λ a b less below within e. different_places read a b less below (omega arith) e);
        out_of_form = λ f.
            let formed = f.3 in
            let is = same read f.0 f.1 f.2 (suc (5 + n + p)) formed (omega arith) in
            let body = at_body net_opening (NetBody f.0 f.1 f.2) f.0 f.1 (5 + n + p) (line text (5 + n + p)) (suc (suc p)) (omega (arith, is.styles_is)) (formed.formed.each (5 + n + p) (omega arith)) in
            past_the_end is.places_is body;
        not_whole = λ is.
            let w = whole k text is in
            let equal = whole_same read w in
            some (nothing_left end_done (omega (arith, w.count, end_count, equal.styles_is, equal.places_is)) w.ends);
      },
    )
      where
        past_the_end : {k' n' p' : ℕ} {l : List ℕ} → p' ≡ p → NetBody k' n' p' (suc (suc p)) l → ⊥
        past_the_end equal (counts_places e is) = omega arith
        past_the_end equal (is_place e h on is) = omega arith
        past_the_end equal (ends e is) = omega arith
