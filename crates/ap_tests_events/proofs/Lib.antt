mod Redoing
