-- The text of a generated page: a script that makes so many parts, each with a node, a listener and an interval.
use Rattle.std.specs.Prelude.{ℕ, zero, suc, ◌%◌, List, [], ◌++◌, codes}
use Rattle.std.specs.Fmt.{decimal}
use Rattle.page_maker.specs.Generator.{drawn}

-- the function that makes a part
abbrev pub part_function : List ℕ
part_function =
    codes "function part(i,k){var n=k,o={\"id\":i,\"next\":null},d=document.createElement(\"p\");o.self=o;\n"
    ++ (codes "if(parts.length>0){o.next=parts[parts.length-1].o;}\n"
    ++ (codes "d.setAttribute(\"id\",\"p\"+i);\n"
    ++ (codes "d.addEventListener(\"click\",function(){n=n+1;sum=sum+n;},false);\n"
    ++ (codes "document.body.appendChild(d);\n"
    ++ (codes "setInterval(function(){n=n+k;},10+k);\n"
    ++ codes "parts.push({\"o\":o,\"get\":function(){return n;}});}\n")))))

-- the function that prints the sum of all parts, of all clicks, and their number
abbrev pub total_function : List ℕ
total_function =
    codes "function total(){var s=0;parts.forEach(function(p){if(p.o.self===p.o){s=s+p.get();}});console.log(s,sum,parts.length);}\n"

-- the page up to its first function
abbrev pub opening : List ℕ
opening = codes "<html><body></body><script>\"use strict\";\n" ++ codes "var parts=[],sum=0;\n"

-- the page up to its first part
abbrev pub head : List ℕ
head = opening ++ (part_function ++ total_function)

abbrev pub tail : List ℕ
tail = codes "</script></html>"

-- the call that makes a part, with its line end
abbrev pub call : ℕ → ℕ → List ℕ
call number start = codes "part(" ++ (decimal number ++ (codes "," ++ (decimal start ++ codes ");\n")))

-- the calls that make the first n parts, in order
abbrev pub calls : ℕ → List ℕ
calls zero = []
calls (suc n) = calls n ++ call (suc n) (drawn (suc n) % 10)

-- the page with n parts
abbrev pub page : ℕ → List ℕ
page n = head ++ (calls n ++ tail)
