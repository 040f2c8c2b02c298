-- How high scripts and their functions may be; the code has the same limits from `js_core`.
use Rattle.std.specs.Prelude.{ℕ}

-- no script of a plain page is higher
abbrev pub plain_height_limit : ℕ
plain_height_limit = 200

-- no script of a form page is higher
abbrev pub form_height_limit : ℕ
form_height_limit = 420

-- no function of a form page that is no factory is higher as an expression
abbrev pub function_height_limit : ℕ
function_height_limit = 400
