-- Worked sessions with a submission.
use Rattle.std.specs.Prelude.{ℕ, List, ◌++◌, codes}
use Rattle.ct_laws.specs.EvidenceExamples.{two_words}

-- six words of length 10, each two at distance at least 6, as a document
abbrev pub six_words_document : List ℕ
six_words_document = codes "kind = \"words\"\nn = 10\nd = 6\nwords = [\"1111111111\", \"1111000000\", \"1000111000\", \"0100100110\", \"0010010101\", \"0001001011\"]"

-- they are submitted, and the bounds of A(10,6) asked for
abbrev pub six_words : List ℕ
six_words = codes "submit hexa\n" ++ six_words_document ++ codes "\nend\nshow 10 6\n"

-- two words of length 10 at distance 5 are submitted, where 6 is stated
abbrev pub close_words : List ℕ
close_words = codes "submit a\n" ++ two_words ++ codes "end\n"

-- the same word twice
abbrev pub repeated_words : List ℕ
repeated_words = codes "submit a\nkind = \"words\"\nn = 10\nd = 6\nwords = [\"0000000000\", \"0000000000\"]\nend\n"

-- no words
abbrev pub no_words : List ℕ
no_words = codes "submit a\nkind = \"words\"\nn = 10\nd = 6\nwords = []\nend\n"

-- the shortened Hamming code of length 6, 8 words at distance 3, by its basis
abbrev pub linear_code_document : List ℕ
linear_code_document = codes "kind = 'cosets'\nn = 6\nd = 3\nbasis = ['100011', '010101', '001110']\nrepresentatives = ['000000']"

-- it is submitted, and the bounds of A(6,3) asked for
abbrev pub linear_code : List ℕ
linear_code = codes "submit linear\n" ++ linear_code_document ++ codes "\nend\nshow 6 3\n"

-- two basis words of weight 4 whose sum has weight 2, stated for distance 4
abbrev pub close_choices : List ℕ
close_choices = codes "submit a\nkind = 'cosets'\nn = 6\nd = 4\nbasis = ['111100', '111010']\nrepresentatives = ['000000']\nend\n"

-- words that are stated to have weight 3, of which the third has another
abbrev pub heavier_word : List ℕ
heavier_word = codes "submit a\nkind = 'words'\nn = 6\nd = 4\nw = 3\nwords = ['000111', '011100', '101011']\nend\n"

-- four words of length 6 and weight 3, each two at distance 4
abbrev pub four_triples : List ℕ
four_triples = codes "submit a\nkind = 'words'\nn = 6\nd = 4\nw = 3\nwords = ['000111', '011100', '101010', '110001']\nend\n"

-- a code of two words, and the one that is made of it with a 0 at the end of each word; the first is withdrawn with all that rests on it
abbrev pub withdrawn_with_all : List ℕ
withdrawn_with_all = codes "submit a\nkind = 'words'\nn = 3\nd = 3\nwords = ['000', '111']\nend\nsubmit b\nkind = 'build'\nop = 'lengthen'\nn = 4\nd = 3\npart = 'a'\nend\nwithdraw a all\nledger\n"
