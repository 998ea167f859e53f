-- What the code's faults and numbers say of the text. Assumes nothing.
use Rattle.std.proofs.Common.{◌≡◌, ℕ, List, [], ◌∷◌, ◌++◌, codes, sym, refl, ◌∙◌, subst, ap₂, arith}
use Rattle.lines.specs.Numbers.{at_line}
use Rattle.lines.specs.Opening.{NumberLine}
use Rattle.lines.specs.declared.faults.Cause.TheVariants.{Form}
use Rattle.lines.specs.declared.faults.LineFault.{LineFault}
use Rattle.texts.specs.Faults as F
use Rattle.texts.specs.Forms.{WheelGood, StylesGood, wheel_line, styles_line}
use Rattle.texts.specs.Lines.{line_feed, text_of}
use Rattle.texts.specs.NetFaults.{FirstFault}
use Rattle.texts.specs.NetText.{net_opening}
use Rattle.texts.proofs.Bytes.{free_tested, free_styles_line, free_wheel_line}
use Rattle.texts.proofs.Forms.{Done, done_more}
use Rattle.texts.proofs.Heads.{none_done, styles_fit, wheel_fits}
use Rattle.theory.specs.Limits.{style_limit}

-- a fault of form tells its line
pub form_told : (k : ℕ) (text : List ℕ) (fault : LineFault) (line : ℕ) → fault ≡ record { line = line; cause = Form } → FirstFault k text (F.form line) → FirstFault k text (at_line fault.line fault.cause)
form_told k text fault line is first = subst (λ f. FirstFault k text (at_line f.line f.cause)) (sym is) first

-- the number of a wheel's line and of a styles line
pub wheel_number : {bytes rest : List ℕ} {w : ℕ} → NumberLine (codes "wheel=") 2 9 bytes w rest → WheelGood w
wheel_number number = record { from_two = number.from_low; to_nine = number.to_high }

pub styles_number : {bytes rest : List ℕ} {n : ℕ} → NumberLine (codes "styles=") 1 style_limit bytes n rest → StylesGood n
styles_number number = record { some = number.from_low; few = number.to_high }

-- where there is no such number there is no such line
pub no_wheel_line : {bytes : List ℕ} → ((w : ℕ) (rest : List ℕ) → NumberLine (codes "wheel=") 2 9 bytes w rest → ⊥) → (w : ℕ) (after : List ℕ) → WheelGood w → bytes ≡ wheel_line w ++ (line_feed ∷ after) → ⊥
no_wheel_line none w after good is = none w after record { from_low = good.from_two; to_high = good.to_nine; small = omega (arith, good.to_nine); opens = is }

pub no_styles_line : {bytes : List ℕ} → ((n : ℕ) (rest : List ℕ) → NumberLine (codes "styles=") 1 style_limit bytes n rest → ⊥) → (n : ℕ) (after : List ℕ) → StylesGood n → bytes ≡ styles_line n ++ (line_feed ∷ after) → ⊥
no_styles_line none n after good is = none n after record { from_low = good.some; to_high = good.few; small = omega (arith, good.few); opens = is }

-- the first line is done, and the first two
pub opening_done : (text rest : List ℕ) → text ≡ net_opening ++ (line_feed ∷ rest) → Done text (net_opening ∷ []) rest
opening_done text rest is = done_more (none_done text) net_opening rest is (free_tested net_opening refl)

pub wheel_done : (text bytes rest : List ℕ) (w : ℕ) → text ≡ net_opening ++ (line_feed ∷ bytes) → NumberLine (codes "wheel=") 2 9 bytes w rest → Done text (net_opening ∷ wheel_line w ∷ []) rest
wheel_done text bytes rest w is number =
    done_more (opening_done text bytes is) (wheel_line w) rest number.opens (free_wheel_line w (wheel_fits w (wheel_number number)))

-- the first three lines
pub three_lines : (text bytes middle rest : List ℕ) (w k n m : ℕ) → text ≡ net_opening ++ (line_feed ∷ bytes) → NumberLine (codes "wheel=") 2 9 bytes w middle → NumberLine (codes "styles=") 1 style_limit middle n rest → w ≡ k → m ≡ n → StylesGood m × (text ≡ text_of (net_opening ∷ wheel_line k ∷ styles_line m ∷ []) ++ rest)
three_lines text bytes middle rest w k n m is named counted wheel styles =
    let good = styles_number counted in
    let done = done_more (wheel_done text bytes middle w is named) (styles_line n) rest counted.opens (free_styles_line n (styles_fit n good)) in (
      subst StylesGood (sym styles) good,
      done.is ∙ ap₂ (λ a b. text_of (net_opening ∷ wheel_line a ∷ styles_line b ∷ []) ++ rest) wheel (sym styles),
    )
