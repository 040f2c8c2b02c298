-- Lists that are made of several parts.
use Rattle.std.proofs.Common.{◌≡◌, ◌∙◌, ap, List, [], ◌++◌, append_assoc, append-nil}

pub four_parts : {A : Type 0} (before a b c d one two three four : List A) → one ≡ before ++ a → two ≡ one ++ b → three ≡ two ++ c → four ≡ three ++ d → four ≡ before ++ (a ++ (b ++ (c ++ d)))
four_parts before a b c d one two three four e f g h =
    h ∙ ap (λ l. l ++ d) (g ∙ ap (λ l. l ++ c) (f ∙ ap (λ l. l ++ b) e)) ∙ simp append_assoc

-- a call of three arguments: its prefix up to the first separator, and what follows
pub five_parts : {A : Type 0} (before start first name separator last close one two three four five : List A)
    → one ≡ before ++ (start ++ (first ++ separator)) → two ≡ one ++ name → three ≡ two ++ separator → four ≡ three ++ last → five ≡ four ++ close
    → five ≡ before ++ (start ++ ((first ++ (separator ++ (name ++ (separator ++ (last ++ []))))) ++ close))
five_parts before start first name separator last close one two three four five e f g h i =
    i ∙ ap (λ l. l ++ close) (h ∙ ap (λ l. l ++ last) (g ∙ ap (λ l. l ++ separator) (f ∙ ap (λ l. l ++ name) e))) ∙ simp (append_assoc, append-nil)

pub six_parts : {A : Type 0} (before a b c d e f one two three four five six : List A)
    → one ≡ before ++ a → two ≡ one ++ b → three ≡ two ++ c → four ≡ three ++ d → five ≡ four ++ e → six ≡ five ++ f
    → six ≡ before ++ (a ++ (b ++ (c ++ (d ++ (e ++ f)))))
six_parts before a b c d e f one two three four five six h i j k l m =
    m ∙ ap (λ p. p ++ f) (l ∙ ap (λ p. p ++ e) (four_parts before a b c d one two three four h i j k)) ∙ simp append_assoc

pub eight_parts : {A : Type 0} (before a b c d e f g h one two three four five six seven eight : List A)
    → one ≡ before ++ a → two ≡ one ++ b → three ≡ two ++ c → four ≡ three ++ d → five ≡ four ++ e → six ≡ five ++ f → seven ≡ six ++ g → eight ≡ seven ++ h
    → eight ≡ before ++ (a ++ (b ++ (c ++ (d ++ (e ++ (f ++ (g ++ h)))))))
eight_parts before a b c d e f g h one two three four five six seven eight i j k l m n o p =
    p ∙ ap (λ q. q ++ h) (o ∙ ap (λ q. q ++ g) (six_parts before a b c d e f one two three four five six i j k l m n)) ∙ simp append_assoc
