-- The codes of the functions: document 01, "A function record". Definitions only.
use Rattle.std.specs.Prelude.{◌≡◌, ℕ, ◌<◌, Result, MatchResult}
use Rattle.answer.specs.declared.Refusal.{Refusal}
use Rattle.answer.specs.declared.Refusal.TheVariants.{Malformed}
use Rattle.functions.specs.declared.FunctionName.{FunctionName}
use Rattle.functions.specs.declared.FunctionName.TheVariants.{Grayscale, Sepia, Saturate, HueRotate, Invert, Opacity, Brightness, Contrast, Blur, DropShadow}

-- "0 grayscale, sepia, saturate, hue-rotate, invert, opacity, brightness, contrast", 8 blur, 9 drop-shadow
abbrev pub code_by : FunctionName → ℕ
code_by Grayscale = 0
code_by Sepia = 1
code_by Saturate = 2
code_by HueRotate = 3
code_by Invert = 4
code_by Opacity = 5
code_by Brightness = 6
code_by Contrast = 7
code_by Blur = 8
code_by DropShadow = 9

-- the function with a code, or a refusal of a code that no function has
abbrev pub Decodes : ℕ → Result FunctionName Refusal → Type 0
Decodes code r = MatchResult r (λ name. code_by name ≡ code) (λ why. (why ≡ Malformed) × (9 < code))
